use Rattle.std.proofs.Common.{◌≡◌, length}
use Rattle.tera_state.specs.BindingMap.{outside}
use Rattle.tera_state.proofs.binding_map.BindingMap.clear_bound.Given as goal

abbrev pub invariant-loop-self : goal.invariant-loop-self
invariant-loop-self l = outside l.part l.self ≡ outside l.part l.initial.self

abbrev pub decreases-loop-self : goal.decreases-loop-self
decreases-loop-self l = length l.self
