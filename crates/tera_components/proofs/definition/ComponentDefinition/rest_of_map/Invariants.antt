use Rattle.std.proofs.Common.{◌≡◌, take}
use Rattle.tera_components.proofs.LeftOver.{only_left}
use Rattle.tera_components.proofs.definition.ComponentDefinition.rest_of_map.Given as goal

abbrev pub invariant-loop-position : goal.invariant-loop-position
invariant-loop-position l = l.all ≡ only_left l.self (take l.position l.given)
