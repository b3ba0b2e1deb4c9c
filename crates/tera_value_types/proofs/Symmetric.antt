-- Laws of comparability and of maps.
use Rattle.std.proofs.Common.{◌≡◌, ◌≢◌, ◌⊎◌, inl, inr, Bool, true, false, cond, if◌then◌else◌, [], ◌∷◌, Option, Some, None, refl, sym, ap, ◌∙◌, Ordering, Less, Equal, Greater, is_eq}
use Rattle.std.specs.Ordering.{ordering_reverse}
use Rattle.std.proofs.lemmas.Bool.{cond-true, cond-false, false_from_ne_true}
use Rattle.tera_value_types.specs.Val.{Val, Vals, KeyVal, undefined, none, bool, int, text, bytes, array, map, no_items, item}
use Rattle.tera_value_types.specs.Access.{find, insert_pair, key_eq}
use Rattle.tera_value_types.specs.Keys.{key_cmp}
use Rattle.tera_value_types.specs.Order.{order, same, comparable, comparable_items}
use Rattle.tera_value_types.specs.Laws.{order_total}
use Rattle.tera_value_types.proofs.Keys.{key_exact, key_tied, is_eq_true}
use Rattle.tera_value_types.proofs.Positions.{Pairs}

tied_back : (o : Ordering) → is_eq (ordering_reverse o) ≡ is_eq o
tied_back Less = refl
tied_back Equal = refl
tied_back Greater = refl

same_sym : (v w : Val) → same v w ≡ same w v
same_sym v w = ap is_eq (order_total.antisymm v w) ∙ tied_back (order w v)

joined : (a b c d e f : Bool) → a ≡ b → c ≡ d → e ≡ f → cond a (cond c e true) false ≡ cond b (cond d f true) false
joined a b c d e f p q r = ap (λ (x : Bool). cond x (cond c e true) false) p ∙ ap (λ (x : Bool). cond b (cond x e true) false) q ∙ ap (λ (x : Bool). cond b (cond d x true) false) r

mutual
  pub comparable_sym : (v w : Val) → comparable v w ≡ comparable w v
  comparable_sym undefined undefined = refl
  comparable_sym none none = refl
  comparable_sym (bool a) (bool b) = refl
  comparable_sym (int a) (int b) = refl
  comparable_sym (text a s) (text b r) = refl
  comparable_sym (bytes a) (bytes b) = refl
  comparable_sym (array a) (array b) = items_sym a b
  comparable_sym (map a) (map b) = refl
  comparable_sym a b = refl

  items_sym : (a b : Vals) → comparable_items a b ≡ comparable_items b a
  items_sym no_items no_items = refl
  items_sym no_items (item w ws) = refl
  items_sym (item v vs) no_items = refl
  items_sym (item v vs) (item w ws) = joined (comparable v w) (comparable w v) (same v w) (same w v) (comparable_items vs ws) (comparable_items ws vs) (comparable_sym v w) (same_sym v w) (items_sym vs ws)

tested : (b : Bool) → (b ≡ true) ⊎ (b ≡ false)
tested true = inl refl
tested false = inr refl

itself : (k : KeyVal) → key_eq k k ≡ true
itself k = ap is_eq (key_tied k)

pub find_inserted : (es : Pairs) (k : KeyVal) (v : Val) → find k (insert_pair es k v) ≡ Some v
find_inserted [] k v = cond-true (key_eq k k) (Some v) None (itself k)
find_inserted (e ∷ es) k v = elim (tested (key_eq k e.0)) [
  | inl h ↦ ap (find k) (cond-true (key_eq k e.0) ((e.0, v) ∷ es) (e ∷ insert_pair es k v) h) ∙ cond-true (key_eq k e.0) (Some v) (find k es) h
  | inr h ↦ ap (find k) (cond-false (key_eq k e.0) ((e.0, v) ∷ es) (e ∷ insert_pair es k v) h) ∙ cond-false (key_eq k e.0) (Some e.1) (find k (insert_pair es k v)) h ∙ find_inserted es k v
]

pub find_other : (es : Pairs) (k j : KeyVal) (v : Val) → key_eq j k ≢ true → find j (insert_pair es k v) ≡ find j es
find_other [] k j v h = cond-false (key_eq j k) (Some v) None (false_from_ne_true (key_eq j k) h)
find_other (e ∷ es) k j v h = elim (tested (key_eq k e.0)) [
  | inl t ↦
      let tie : k ≡ e.0 = key_exact k e.0 (is_eq_true (key_cmp k e.0) t) in
      let apart : key_eq j e.0 ≡ false = ap (key_eq j) (sym tie) ∙ false_from_ne_true (key_eq j k) h in
      ap (find j) (cond-true (key_eq k e.0) ((e.0, v) ∷ es) (e ∷ insert_pair es k v) t) ∙ cond-false (key_eq j e.0) (Some v) (find j es) apart ∙ sym (cond-false (key_eq j e.0) (Some e.1) (find j es) apart)
  | inr t ↦ ap (find j) (cond-false (key_eq k e.0) ((e.0, v) ∷ es) (e ∷ insert_pair es k v) t) ∙ ap (λ (o : Option Val). if key_eq j e.0 then Some e.1 else o) (find_other es k j v h)
]
