use Rattle.std.proofs.Common.{◌≡◌, ◌≤◌, length, take}
use Rattle.tera_values.specs.Val.{ktext}
use Rattle.tera_values.specs.Access.{find}
use Rattle.tera_operators.specs.Entries.{listed}
use Rattle.tera_operators.proofs.map_entries.value_at_key.Given as goal

abbrev pub decreases-loop-left : goal.decreases-loop-left
decreases-loop-left l = l.left

abbrev pub invariant-loop-left : goal.invariant-loop-left
invariant-loop-left l =
    (l.left ≤ length l.operands)
    × (find (ktext l.name) (listed l.keys l.operands) ≡ find (ktext l.name) (listed l.keys (take l.left l.operands)))
