use Rattle.std.proofs.Common.{◌≡◌, ◌≤◌, ◌++◌}
use Rattle.tera_value_types.specs.Slices.{downward}
use Rattle.tera_value_types.proofs.slice.positions_downward.Given as goal

abbrev pub invariant-loop-at : goal.invariant-loop-at
invariant-loop-at l = record {
  within : l.at ≤ l.start;
  found : l.positions.items ++ downward l.start l.at l.end l.step ≡ downward l.start l.start l.end l.step;
}

abbrev pub decreases-loop-at : goal.decreases-loop-at
decreases-loop-at l = l.at
