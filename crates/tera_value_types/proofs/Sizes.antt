-- An item is smaller than the list that it stands in.
use Rattle.std.proofs.Common.{◌≡◌, ℕ, zero, suc, ◌+◌, ◌*◌, List, [], ◌∷◌, ◌<◌, ◌≤◌, length, get_or, arith, subst, sym}
use denote.Param.Weighed.{most}
use Rattle.tera_value_types.specs.Val.{Val, array, map, vals, entries, val_size, vals_size, entries_size}
use Rattle.tera_value_types.specs.View.{entry_views}
use Rattle.tera_value_types.specs.declared.value.Entry.{Entry}
use Rattle.tera_value_types.specs.declared.value.EntryTable.TheDeep.{size-Entry, size-Value}

pub item_below : (xs : List Val) (i : ℕ) (v : Val) → i < length xs → v ≡ get_or xs i v → val_size v < vals_size (vals xs)
item_below [] i v h e = absurd (omega (arith, h))
item_below (x ∷ xs) zero v h e = let P : Val → Type 0 = λ w. val_size w < vals_size (vals (x ∷ xs)) in subst P (sym e) (omega arith)
item_below (x ∷ xs) (suc i) v h e = omega (arith, item_below xs i v (omega (arith, h)) e)

items_deep : (vs : List Val) → most size-Value vs ≤ 2 * (vals_size (vals vs) + 1)
items_deep [] = omega arith
items_deep (v ∷ vs) = omega (arith, items_deep vs)

entries_deep : (es : List Entry) → most size-Entry es ≤ 2 * (entries_size (entries (entry_views es)) + 1)
entries_deep [] = omega arith
entries_deep (e ∷ es) = omega (arith, entries_deep es)

-- an array and a map are deeper than all that they hold
pub array_deeper : (vs : List Val) (v : Val) → array (vals vs) ≡ v → most size-Value vs + 2 ≤ size-Value v
array_deeper vs v e = subst (λ (w : Val). most size-Value vs + 2 ≤ size-Value w) e (omega (arith, items_deep vs))

pub map_deeper : (es : List Entry) (v : Val) → map (entries (entry_views es)) ≡ v → most size-Entry es + 2 ≤ size-Value v
map_deeper es v e = subst (λ (w : Val). most size-Entry es + 2 ≤ size-Value w) e (omega (arith, entries_deep es))
