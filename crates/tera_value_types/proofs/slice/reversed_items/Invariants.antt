use Rattle.std.proofs.Common.{◌≡◌, ◌≤◌, ◌++◌, take, length, reverse}
use Rattle.tera_value_types.proofs.slice.reversed_items.Given as goal

abbrev pub invariant-loop-left : goal.invariant-loop-left
invariant-loop-left l = record {
  within : l.left ≤ length l.items;
  rest : l.backward.items ++ reverse (take l.left l.items) ≡ reverse l.items;
}

abbrev pub decreases-loop-left : goal.decreases-loop-left
decreases-loop-left l = l.left
