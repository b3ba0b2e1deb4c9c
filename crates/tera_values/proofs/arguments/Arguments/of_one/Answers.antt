use Rattle.std.proofs.Common.{sym, subst}
use Rattle.std.specs.List.Sorted.{IsStrictlySortedBy}
use Rattle.tera_values.specs.Named.{IsAscending}
use Rattle.tera_values.proofs.arguments.Arguments.of_one.Goals as goal

pub invariant_of-result : goal.invariant_of-result
unfolding IsStrictlySortedBy
invariant_of-result c = subst IsAscending (sym c.from_ref.ensures.value) (tt, tt)
