use Rattle.std.proofs.Common.{Result}
use Rattle.toml.specs.View.{members_view}
use Rattle.tera_errors.specs.Prelude.{Fault}
use Rattle.tera_value_types.specs.Val.{Val}
use Rattle.tera_values.specs.Named.{Named, put_all}
use Rattle.tera_data.specs.Toml.{OfTable}
use Rattle.tera_data.proofs.Tables.{MembersInto}
use Rattle.tera_data.proofs.toml_tables.context_of.Given as goal

abbrev pub invariant-loop-name : goal.invariant-loop-name
invariant-loop-name l =
    (r : Result (Named Val) Fault) → MembersInto l.floats (λ vs. put_all vs l.all) (members_view l.name-iterator) r
    → OfTable l.floats (members_view l.members.entries) r
