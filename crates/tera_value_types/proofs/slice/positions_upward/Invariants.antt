use Rattle.std.proofs.Common.{◌≡◌, ◌-◌, ◌++◌}
use Rattle.tera_value_types.specs.Slices.{upward}
use Rattle.tera_value_types.proofs.slice.positions_upward.Given as goal

abbrev pub invariant-loop-at : goal.invariant-loop-at
invariant-loop-at l = l.positions.items ++ upward l.end l.at l.end l.step ≡ upward l.end l.start l.end l.step

abbrev pub decreases-loop-at : goal.decreases-loop-at
decreases-loop-at l = l.end - l.at
