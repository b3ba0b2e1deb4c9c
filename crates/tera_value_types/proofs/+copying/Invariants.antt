use Rattle.std.proofs.Common.{◌≡◌, take}
use Rattle.tera_value_types.specs.View.{entry_views}
use Rattle.tera_value_types.proofs.+copying.Given as goal

abbrev pub invariant-copy::copy_items-loop-item : goal.invariant-copy::copy_items-loop-item
invariant-copy::copy_items-loop-item l = l.copies.items ≡ take l.item-index l.items

abbrev pub invariant-copy::copy_entries-loop-item : goal.invariant-copy::copy_entries-loop-item
invariant-copy::copy_entries-loop-item l = entry_views l.copies.items ≡ take l.item-index (entry_views l.all)
