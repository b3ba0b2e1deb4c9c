-- Names that live elsewhere, or none.
use Rattle.std.specs.Prelude.{[], Option, Some, None}
use Rattle.std.specs.Borrow.{Bor}
use Rattle.tera_values.specs.Val.{Val}
use Rattle.tera_values.specs.Named.{Named}
use Rattle.tera_state.specs.declared.context_ref.NameSource.{NameSource}
use Rattle.tera_state.specs.declared.context_ref.NameSource.TheVariants as lender

abbrev pub names_of : Option (Bor (Named Val)) → Named Val
names_of None = []
names_of (Some context) = context.now

abbrev pub lent_by : NameSource → Named Val
lent_by lender.Empty = []
lent_by (lender.Context context) = context.now
lent_by (lender.Arguments arguments) = arguments.now
