use Rattle.tera_registry.specs.Known.{known_in}
use Rattle.tera_registry.proofs.Lacking.{LacksNothing}
use Rattle.tera_registry.proofs.inventory.Inventory.code_has_missing_callee.Given as goal

abbrev pub invariant-loop-position : goal.invariant-loop-position
invariant-loop-position g l = LacksNothing (known_in g.O.Objects.engine l.self) l.chunk.code l.position
