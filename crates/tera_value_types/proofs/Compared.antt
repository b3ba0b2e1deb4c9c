-- The order of lists of values, and of maps, as the order of lists.
use Rattle.std.proofs.Common.{◌≡◌, ℕ, zero, suc, subst, ◌<◌, arith, true, false, List, [], ◌∷◌, map, length, get_or, refl, sym, ap, ◌∙◌, Ordering, Less, Equal, Greater}
use Rattle.std.specs.Ordering.{ordering_then, is_ne}
use Rattle.std.proofs.lemmas.List.{get_or-map}
use Rattle.std.specs.Cmp.Lexicographic.{slice_cmp}
use Rattle.tera_value_types.specs.Val.{Val, KeyVal, kbool, undefined, vals, entries, val_size, entries_size}
use Rattle.tera_value_types.specs.View.{key_view, entry_view, entry_views}
use Rattle.tera_value_types.specs.declared.value.Entry.{Entry}
use Rattle.tera_value_types.specs.Keys.{key_cmp}
use Rattle.tera_value_types.specs.Index.{picked, IsIndex}
use Rattle.tera_value_types.specs.Order.{order, pair_order, plain_items, plain_entries, items_cmp, entries_cmp}
use Rattle.tera_value_types.proofs.Positions.{Pairs}
use Rattle.tera_value_types.proofs.Sorted.{plain_pair, in_order}

then_assoc : (a b c : Ordering) → ordering_then a (ordering_then b c) ≡ ordering_then (ordering_then a b) c
then_assoc Less b c = refl
then_assoc Equal b c = refl
then_assoc Greater b c = refl

pub as_items : (a b : List Val) → slice_cmp order a b ≡ items_cmp (plain_items (vals a)) (plain_items (vals b))
as_items [] [] = refl
as_items [] (y ∷ b) = refl
as_items (x ∷ a) [] = refl
as_items (x ∷ a) (y ∷ b) = ap (ordering_then (order x y)) (as_items a b)

as_pairs : (a b : Pairs) → slice_cmp pair_order a b ≡ entries_cmp (entries (map plain_pair a)) (entries (map plain_pair b))
as_pairs [] [] = refl
as_pairs [] (y ∷ b) = refl
as_pairs (x ∷ a) [] = refl
as_pairs (x ∷ a) (y ∷ b) = ap (ordering_then (pair_order x y)) (as_pairs a b) ∙ sym (then_assoc (key_cmp x.0 y.0) (order x.1 y.1) (entries_cmp (entries (map plain_pair a)) (entries (map plain_pair b))))

-- the order of maps, by their indexes
pub as_entries : (ka kb : List ℕ) (a b : Pairs) → IsIndex ka a → IsIndex kb b → slice_cmp pair_order (picked ka a) (picked kb b) ≡ entries_cmp (plain_entries (entries a)) (plain_entries (entries b))
as_entries ka kb a b ia ib = as_pairs (picked ka a) (picked kb b) ∙ sym (ap (λ e. entries_cmp e (plain_entries (entries b))) (in_order ka a ia) ∙ ap (entries_cmp (entries (map plain_pair (picked ka a)))) (in_order kb b ib))

ne_then : (o p : Ordering) → is_ne o ≡ true → o ≡ ordering_then o p
ne_then Less p h = refl
ne_then Equal p h = cc
ne_then Greater p h = refl

eq_then : (o p : Ordering) → is_ne o ≡ false → ordering_then o p ≡ p
eq_then Less p h = cc
eq_then Equal p h = refl
eq_then Greater p h = cc

picked_entry : (a : List Entry) (i : ℕ) (x : Entry) → i < length a → x ≡ get_or a i x → get_or (entry_views a) i (kbool false, undefined) ≡ entry_view x
picked_entry a i x h is = get_or-map entry_view a i x (kbool false, undefined) h ∙ ap entry_view (sym is)

-- the order of two maps by what their walks have not passed yet
abbrev pub between : List ℕ → List ℕ → List Entry → List Entry → Ordering
between ka kb a b = slice_cmp pair_order (picked ka (entry_views a)) (picked kb (entry_views b))

pub as_passed : (ka la kb lb : List ℕ) (a b : List Entry) → ka ≡ la → kb ≡ lb → between ka kb a b ≡ between la lb a b
as_passed ka la kb lb a b ea eb = ap (λ (k : List ℕ). between k kb a b) ea ∙ ap (λ (k : List ℕ). between la k a b) eb

-- what a walk passes, and what it leaves, are positions of entries
module _ (l m : List ℕ) (i n : ℕ) (e : l ≡ i ∷ m) (all : (p : ℕ) → p < length l → get_or l p 0 < n) where
  all_in : (p : ℕ) → p < length (i ∷ m) → get_or (i ∷ m) p 0 < n
  all_in = subst (λ (k : List ℕ). (p : ℕ) → p < length k → get_or k p 0 < n) e all

  pub first_in : i < n
  first_in = all_in 0 (omega arith)

  pub rest_in : (p : ℕ) → p < length m → get_or m p 0 < n
  rest_in p h = all_in (suc p) (omega (arith, h))

-- two walks that each pass an entry: there the keys tell, or else the values, or else the rest
module _ (ka kb : List ℕ) (a b : List Entry) (i j : ℕ) (x y : Entry) (h : i < length a) (g : j < length b) (is_x : x ≡ get_or a i x) (is_y : y ≡ get_or b j y) where
  abbrev whole : Ordering
  whole = between (i ∷ ka) (j ∷ kb) a b

  abbrev rest : Ordering
  rest = between ka kb a b

  abbrev keys : Ordering
  keys = key_cmp (key_view x.key) (key_view y.key)

  abbrev values : Ordering
  values = order x.value y.value

  pairs_step : whole ≡ ordering_then (ordering_then keys values) rest
  pairs_step = ap (λ (p : KeyVal × Val). ordering_then (pair_order p (get_or (entry_views b) j (kbool false, undefined))) rest) (picked_entry a i x h is_x) ∙ ap (λ (q : KeyVal × Val). ordering_then (pair_order (entry_view x) q) rest) (picked_entry b j y g is_y)

  at_position : (o : Ordering) → o ≡ ordering_then keys values → ordering_then o rest ≡ whole
  at_position o is = ap (λ q. ordering_then q rest) is ∙ sym pairs_step

  by_values : (k : Ordering) → k ≡ keys → ordering_then k values ≡ ordering_then keys values
  by_values k is = ap (λ o. ordering_then o values) is

  pub keys_tell : (k : Ordering) → k ≡ keys → is_ne k ≡ true → k ≡ whole
  keys_tell k is ne = ne_then k rest ne ∙ at_position k (ne_then k values ne ∙ by_values k is)

  same_keys : (k v : Ordering) → k ≡ keys → is_ne k ≡ false → v ≡ values → ordering_then v rest ≡ whole
  same_keys k v is tie gives = at_position v (gives ∙ sym (eq_then k values tie) ∙ by_values k is)

  pub values_tell : (k v : Ordering) → k ≡ keys → is_ne k ≡ false → v ≡ values → is_ne v ≡ true → v ≡ whole
  values_tell k v is tie gives ne = ne_then v rest ne ∙ same_keys k v is tie gives

  pub rest_tells : (k v : Ordering) → k ≡ keys → is_ne k ≡ false → v ≡ values → is_ne v ≡ false → whole ≡ rest
  rest_tells k v is tie gives tied = sym (same_keys k v is tie gives) ∙ eq_then v rest tied

pub entry_below : (all : List Entry) (i : ℕ) (e : Entry) → i < length all → e ≡ get_or all i e → val_size e.value < entries_size (entries (entry_views all))
entry_below [] i e h is = absurd (omega (arith, h))
entry_below (x ∷ all) zero e h is = let P : Entry → Type 0 = λ w. val_size w.value < entries_size (entries (entry_views (x ∷ all))) in subst P (sym is) (omega arith)
entry_below (x ∷ all) (suc i) e h is = omega (arith, entry_below all i e (omega (arith, h)) is)
