-- The entries in memory and the pairs that they stand for.
use Rattle.std.proofs.Common.{◌≡◌, ℕ, ◌<◌, List, length, get_or, set, [], ◌∷◌, ◌++◌, refl, ap, ◌∙◌, arith, false}
use Rattle.std.proofs.lemmas.List.{length-map, get_or-map, map-set, map-append}
use Rattle.tera_value_types.specs.Val.{Val, KeyVal, kbool, undefined}
use Rattle.tera_value_types.specs.View.{key_view, entry_view, entry_views}
use Rattle.tera_value_types.specs.Index.{key_at, nth_key, IsIndex, IsRising}
use Rattle.tera_value_types.specs.declared.value.Entry.{Entry}
use Rattle.tera_value_types.proofs.Positions.{value_at}

pub views_length : (all : List Entry) → length (entry_views all) ≡ length all
views_length all = length-map all entry_view

pub key_of : (all : List Entry) (i : ℕ) (d : Entry) → i < length all → key_at (entry_views all) i ≡ key_view (get_or all i d).key
key_of all i d h = ap (λ (e : KeyVal × Val). e.0) (get_or-map entry_view all i d (kbool false, undefined) h)

pub value_of : (all : List Entry) (i : ℕ) (d : Entry) → i < length all → value_at (entry_views all) i ≡ (get_or all i d).value
value_of all i d h = ap (λ (e : KeyVal × Val). e.1) (get_or-map entry_view all i d (kbool false, undefined) h)

pub row_below : (by_key : List ℕ) (all : List Entry) → IsRising by_key (entry_views all) → (p : ℕ) → p < length by_key → get_or by_key p 0 < length all
row_below by_key all ix p h = omega (arith, ix.below p h, views_length all)

pub position_below : (by_key : List ℕ) (all : List Entry) → IsIndex by_key (entry_views all) → (p : ℕ) → p < length by_key → get_or by_key p 0 < length all
position_below by_key all ix p h = row_below by_key all (record { below = ix.below; rising = ix.rising }) p h

pub nth_key_of : (by_key : List ℕ) (all : List Entry) → IsRising by_key (entry_views all) → (p : ℕ) (d : Entry) → p < length by_key → nth_key by_key (entry_views all) p ≡ key_view (get_or all (get_or by_key p 0) d).key
nth_key_of by_key all ix p d h = key_of all _ d (row_below by_key all ix p h)

-- a new value at a position
pub write_views : (all : List Entry) (i : ℕ) (r : Entry) (w : Val) → i < length all → r ≡ get_or all i r → (e : Entry) → key_view e.key ≡ key_view r.key → e.value ≡ w → entry_views (set all i e) ≡ set (entry_views all) i (key_at (entry_views all) i, w)
write_views all i r w h is e k v =
    map-set entry_view all i e ∙ ap (λ p. set (entry_views all) i p) (rw (k, v, key_of all i r h, ← is) refl)

pub push_views : (all : List Entry) (e : Entry) → entry_views (all ++ e ∷ []) ≡ entry_views all ++ (key_view e.key, e.value) ∷ []
push_views all e = map-append entry_view all (e ∷ [])
