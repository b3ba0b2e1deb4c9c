use Rattle.std.proofs.Common.{◌≡◌, Ok, ◌++◌, drop}
use Rattle.json.specs.Value.{items_view, members_view}
use Rattle.tera_data.specs.Values.{then, of_items, of_members, once}
use Rattle.tera_data.proofs.Members.{placed}
use Rattle.tera_values.specs.Named.{text_keys}
use Rattle.tera_data.proofs.conversion.+values.Given as goal

abbrev pub invariant-items_of-loop-item : goal.invariant-items_of-loop-item
invariant-items_of-loop-item l =
    of_items l.floats (items_view l.item-items)
    ≡ then (of_items l.floats (items_view (drop l.item-index l.item-items)))
    (λ vs. Ok (l.all.items ++ vs))

abbrev pub invariant-map_of-loop-member : goal.invariant-map_of-loop-member
invariant-map_of-loop-member l =
    then (of_members l.floats (members_view l.member-items)) (λ vs. Ok (text_keys (once vs)))
    ≡ then (of_members l.floats (members_view (drop l.member-index l.member-items)))
    (λ vs. Ok (placed l.all vs))
