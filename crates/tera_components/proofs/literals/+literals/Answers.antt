use Rattle.std.proofs.Common.{Ok, sym, ap, ◌∙◌}
use Rattle.tera_components.proofs.Rows.{literal_array, literal_map}
use Rattle.tera_components.proofs.literals.+literals.Goals as goal

pub value_from-returns-in_ok-items_from-in-Array :
    goal.value_from-returns-in_ok-items_from-in-Array
value_from-returns-in_ok-items_from-in-Array t c =
    ap Ok (literal_array _ c.in-Array.items _ _ c.in-Array.is c.as_slice.ensures.value c.in_ok-items_from-in-Array.ensures ∙ sym c.array.ensures)

pub value_from-returns-in_ok-map_from-in-Map : goal.value_from-returns-in_ok-map_from-in-Map
value_from-returns-in_ok-map_from-in-Map t c =
    ap Ok (literal_map _ c.in-Map.entries _ _ c.in-Map.is c.as_slice-in-Map.ensures.value c.in_ok-map_from-in-Map.ensures ∙ sym c.map.ensures)
