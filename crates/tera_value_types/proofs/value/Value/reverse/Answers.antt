use Rattle.std.proofs.Common.{◌≡◌, List, Ok, ap, sym, ◌∙◌, reverse}
use Rattle.tera_value_types.specs.Val.{Val, array, vals}
use Rattle.tera_value_types.specs.Slices.{reversed}
use Rattle.tera_value_types.proofs.Counts.{list_vals}
use Rattle.tera_value_types.proofs.Told.{ok_same}
use Rattle.tera_value_types.proofs.value.Value.reverse.Goals as goal

pub returns-in_ok-reversed_items-in-Array : goal.returns-in_ok-reversed_items-in-Array
returns-in_ok-reversed_items-in-Array c =
    let xs : List Val = c.in-Array.items.now in
    let same-items : reverse xs ≡ c.in_ok-reversed_items-in-Array.field-0.items = ok_same (reverse xs) c.in_ok-reversed_items-in-Array.field-0.items c.in_ok-reversed_items-in-Array.ensures in
    ap reversed (sym c.in-Array.ensures) ∙ ap (λ (l : List Val). Ok (array (vals (reverse l)))) (list_vals xs) ∙ ap (λ (l : List Val). Ok (array (vals l))) same-items ∙ ap Ok (sym c.array.ensures)
