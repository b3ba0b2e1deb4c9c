use Rattle.std.proofs.Common.{◌≡◌, drop}
use Rattle.tera_state.specs.Bound.{value_in}
use Rattle.tera_state.proofs.bindings.find.Given as goal

abbrev pub invariant-loop-b : goal.invariant-loop-b
invariant-loop-b l = value_in (drop l.b-index l.items) l.fn.frame l.fn.layer l.fn.name ≡ value_in l.items l.fn.frame l.fn.layer l.fn.name
