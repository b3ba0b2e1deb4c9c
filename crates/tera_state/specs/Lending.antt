-- What an iterator over a loop's items lends.
use Rattle.std.specs.Prelude.{List, drop, unwrap_or}
use Rattle.tera_values.specs.Val.{undefined}
use Rattle.tera_state.specs.FoundValue.{found_value}
use Rattle.tera_state.specs.Items.{Item}
use Rattle.tera_state.specs.Opened.{walked}
use Rattle.tera_state.specs.declared.found_value.FoundValue.{FoundValue}
use Rattle.tera_state.specs.declared.items.ForLoopIterator.{ForLoopIterator}

-- an item by its key, where it has one, and its value
abbrev pub lent_item : FoundValue × FoundValue → Item
lent_item i = (found_value i.0, unwrap_or (found_value i.1) undefined)

-- the items that are still to come
abbrev pub items_left : ForLoopIterator → List Item
items_left i = drop i.index (walked i.items.now)
