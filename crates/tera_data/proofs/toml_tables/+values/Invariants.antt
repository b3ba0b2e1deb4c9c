use Rattle.std.proofs.Common.{[], List, Result, drop}
use Rattle.toml.specs.View.{items_view, members_view}
use Rattle.tera_errors.specs.Prelude.{Fault}
use Rattle.tera_value_types.specs.Val.{KeyVal, Val}
use Rattle.tera_data.specs.Toml.{OfItems}
use Rattle.tera_data.proofs.Members.{placed}
use Rattle.tera_data.proofs.Tables.{ItemsBehind, MembersInto}
use Rattle.tera_data.proofs.toml_tables.+values.Given as goal

abbrev pub invariant-items_of-loop-item : goal.invariant-items_of-loop-item
invariant-items_of-loop-item l =
    (r : Result (List Val) Fault) → ItemsBehind l.floats l.all.items (items_view (drop l.item-index l.item-items)) r
    → OfItems l.floats (items_view l.item-items) r

abbrev pub invariant-map_of-loop-name : goal.invariant-map_of-loop-name
invariant-map_of-loop-name l =
    (goal.iterator-map_of-loop-name).can_next l.name-iterator
    × (goal.iterator-map_of-loop-name).is_finite l.name-iterator
    × ((r : Result (List (KeyVal × Val)) Fault) → MembersInto l.floats (placed l.all) (members_view l.name-iterator) r
    → MembersInto l.floats (placed []) (members_view l.members.entries) r)
