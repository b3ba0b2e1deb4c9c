use Rattle.std.proofs.Common.{◌≡◌, take}
use Rattle.tera_value_types.specs.Slices.{picked_items}
use Rattle.tera_value_types.proofs.slice.pick_items.Given as goal

abbrev pub invariant-loop-position : goal.invariant-loop-position
invariant-loop-position l = l.picked.items ≡ picked_items (take l.position-index l.positions) l.items
