use Rattle.std.proofs.Common.{◌≡◌, map, take}
use Rattle.tera_values.specs.Alphabet.{plain}
use Rattle.tera_built_ins.specs.Maps.{part_value}
use Rattle.tera_built_ins.proofs.maps.array_of_parts.Given as goal

abbrev pub invariant-loop-position : goal.invariant-loop-position
invariant-loop-position l = l.items.items ≡ map (part_value plain l.part) (take l.position l.all)
