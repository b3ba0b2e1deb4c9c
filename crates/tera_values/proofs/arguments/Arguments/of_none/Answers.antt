use Rattle.std.specs.List.Sorted.{IsStrictlySortedBy}
use Rattle.tera_values.proofs.arguments.Arguments.of_none.Goals as goal

pub invariant_of-result : goal.invariant_of-result
unfolding IsStrictlySortedBy
invariant_of-result c = tt
