use Rattle.std.proofs.Common.{◌≡◌, ℕ, List, Option, Bor, ap, sym, refl, ◌∙◌, length, option_copied, Some, None}
use Rattle.std.proofs.lemmas.Option.{slice_get_read, slice_get_past}
use Rattle.std.specs.List.{slice_get}
use Rattle.std.specs.Slice.{IsItemAt}
use Rattle.tera_value_types.specs.Val.{Val, ktext}
use Rattle.tera_value_types.specs.Access.{find}
use Rattle.tera_value_types.specs.Paths.{step_to, item_named, position_named}
use Rattle.tera_value_types.proofs.Pairs.{pairs_entries}
use Rattle.tera_value_types.proofs.Walks.{step_array}
use Rattle.tera_value_types.proofs.value.Value.step.Goals as goal

pub returns-in-Map : goal.returns-in-Map
returns-in-Map c = c.get_text.ensures ∙ ap (find (ktext c.args.piece.now)) (sym (pairs_entries c.in-Map.all.now)) ∙ ap (step_to c.args.piece.now) c.in-Map.ensures

-- what `get` lends is what stands there
lent : (xs : List Val) (i : ℕ) (r : Option (Bor Val)) → IsItemAt xs i r → option_copied r ≡ slice_get xs i
lent xs i None h = sym (slice_get_past xs i h.3)
lent xs i (Some x) h = sym (slice_get_read xs _ i x.now refl h.3.0 h.1)

pub returns-in-Some : goal.returns-in-Some
returns-in-Some c =
    let xs = c.in-Array.items.now in
    let named : Some c.in-Some.position ≡ position_named c.args.piece.now (length xs) = rw c.as_bytes.ensures.value at c.in-Some.ensures in
    lent xs c.in-Some.position c.get.result c.get.ensures.lookup ∙ ap (λ o. item_named o xs) named ∙ step_array c.args.piece.now xs ∙ ap (step_to c.args.piece.now) c.in-Array.ensures

pub returns-in-None : goal.returns-in-None
returns-in-None c =
    let xs = c.in-Array.items.now in
    let named : None ≡ position_named c.args.piece.now (length xs) = rw c.as_bytes.ensures.value at c.in-None.ensures in
    ap (λ o. item_named o xs) named ∙ step_array c.args.piece.now xs ∙ ap (step_to c.args.piece.now) c.in-Array.ensures
