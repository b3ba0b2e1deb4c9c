use Rattle.std.proofs.Common.{◌≡◌, drop}
use Rattle.tera_state.specs.Bound.{position_from}
use Rattle.tera_state.proofs.bindings.position.Given as goal

abbrev pub invariant-loop-at : goal.invariant-loop-at
invariant-loop-at l = position_from l.at (drop l.at l.items) l.fn.frame l.fn.layer l.fn.name ≡ position_from 0 l.items l.fn.frame l.fn.layer l.fn.name
