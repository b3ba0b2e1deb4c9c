use Rattle.std.proofs.Common.{◌≡◌, drop}
use Rattle.tera_value_types.specs.Val.{vals}
use Rattle.tera_value_types.specs.Slices.{has_item}
use Rattle.tera_value_types.proofs.contains.has_item.Given as goal

abbrev pub invariant-loop-item : goal.invariant-loop-item
invariant-loop-item l = has_item l.wanted (vals l.items) ≡ has_item l.wanted (vals (drop l.item-index l.items))
