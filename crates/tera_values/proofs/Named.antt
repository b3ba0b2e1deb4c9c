-- Putting and finding by name.
use Rattle.std.proofs.Common.{◌≡◌, ◌⊎◌, inl, inr, Bool, true, false, List, [], ◌∷◌, Option, Some, String, string_bytes, refl, sym, ap, ◌∙◌, cond, map, if◌then◌else◌, Ordering, Less, Equal, Greater}
use Rattle.std.specs.Ordering.{ordering_reverse, match_ordering}
use Rattle.std.specs.Cmp.{IsTotalOrder}
use Rattle.std.specs.Map.{lookup, keys_of}
use Rattle.std.specs.BTreeMap.{insert_entry as insert_ordered}
use Rattle.std.specs.Str.{bytes_eq}
use Rattle.std.specs.String.{string_cmp}
use Rattle.std.specs.Cmp.Lexicographic.{bytes_decides}
use Rattle.std.proofs.lemmas.Cmp.{nat_list_cmp_total, tied_itself}
use Rattle.std.proofs.lemmas.Map.Lookups.{exact_bytes}
use Rattle.indexmap.specs.IndexMap.{insert_entry}
use Rattle.tera_errors.specs.Site.{Name}
use Rattle.tera_values.specs.Named.{Named, name_cmp, at_name, put}
use Rattle.tera_values.specs.Names.{by_name}

pub names_total : IsTotalOrder name_cmp
names_total = nat_list_cmp_total

pub three : (o : Ordering) → (o ≡ Less) ⊎ ((o ≡ Equal) ⊎ (o ≡ Greater))
three Less = inl refl
three Equal = inr (inl refl)
three Greater = inr (inr refl)

pub flip_less : (a b : Name) → name_cmp a b ≡ Less → name_cmp b a ≡ Greater
flip_less a b h = names_total.antisymm b a ∙ ap ordering_reverse h

pub flip_greater : (a b : Name) → name_cmp a b ≡ Greater → name_cmp b a ≡ Less
flip_greater a b h = names_total.antisymm b a ∙ ap ordering_reverse h

itself : (a : Name) → name_cmp a a ≡ Equal
itself a = tied_itself names_total a

differ : (n k j : Name) → name_cmp k j ≡ Greater → bytes_eq n k ≡ true → bytes_eq n j ≡ true → ⊥
differ n k j h p q =
    let e : k ≡ j = sym ((bytes_decides n k).0 p) ∙ (bytes_decides n j).0 q in
    let t : name_cmp k j ≡ Equal = ap (name_cmp k) (sym e) ∙ itself k in
    cc

module _ {A : Type 0} where
  -- the list that one comparison gives
  pub before : (n : Name) (a : A) (e : Name × A) (es : Named A) → name_cmp n e.0 ≡ Less → put n a (e ∷ es) ≡ (n, a) ∷ e ∷ es
  before n a e es h = ap (λ (o : Ordering). match_ordering o ((n, a) ∷ e ∷ es) ((n, a) ∷ es) (e ∷ put n a es)) h

  pub there : (n : Name) (a : A) (e : Name × A) (es : Named A) → name_cmp n e.0 ≡ Equal → put n a (e ∷ es) ≡ (n, a) ∷ es
  there n a e es h = ap (λ (o : Ordering). match_ordering o ((n, a) ∷ e ∷ es) ((n, a) ∷ es) (e ∷ put n a es)) h

  pub after : (n : Name) (a : A) (e : Name × A) (es : Named A) → name_cmp n e.0 ≡ Greater → put n a (e ∷ es) ≡ e ∷ put n a es
  after n a e es h = ap (λ (o : Ordering). match_ordering o ((n, a) ∷ e ∷ es) ((n, a) ∷ es) (e ∷ put n a es)) h

  pub put_again : (n : Name) (a b : A) (es : Named A) → put n a (put n b es) ≡ put n a es
  put_again n a b [] = there n a (n, b) [] (itself n)
  put_again n a b (e ∷ es) = elim (three (name_cmp n e.0)) [
    | inl h ↦ ap (put n a) (before n b e es h) ∙ there n a (n, b) (e ∷ es) (itself n) ∙ sym (before n a e es h)
    | inr (inl h) ↦ ap (put n a) (there n b e es h) ∙ there n a (n, b) es (itself n) ∙ sym (there n a e es h)
    | inr (inr h) ↦ ap (put n a) (after n b e es h) ∙ after n a e (put n b es) h ∙ ap (λ (l : Named A). e ∷ l) (put_again n a b es) ∙ sym (after n a e es h)
  ]

  -- two things go to their names in either order
  pub put_swap : (j k : Name) (a b : A) (es : Named A) → name_cmp j k ≡ Less → put j a (put k b es) ≡ put k b (put j a es)
  put_swap j k a b [] h = before j a (k, b) [] h ∙ sym (after k b (j, a) [] (flip_less j k h))
  put_swap j k a b (e ∷ es) h =
      let k_after : (l : Named A) → put k b ((j, a) ∷ l) ≡ (j, a) ∷ put k b l = λ l. after k b (j, a) l (flip_less j k h) in
      elim (three (name_cmp k e.0)) [
        | inl q ↦ ap (put j a) (before k b e es q) ∙ before j a (k, b) (e ∷ es) h ∙ sym (ap (put k b) (before j a e es (names_total.trans j k e.0 h q)) ∙ k_after (e ∷ es) ∙ ap (λ (l : Named A). (j, a) ∷ l) (before k b e es q))
        | inr (inl q) ↦
            let tie : e.0 ≡ k = sym (exact_bytes k e.0 q) in
            let p : name_cmp j e.0 ≡ Less = ap (name_cmp j) tie ∙ h in
            ap (put j a) (there k b e es q) ∙ before j a (k, b) es h ∙ sym (ap (put k b) (before j a e es p) ∙ k_after (e ∷ es) ∙ ap (λ (l : Named A). (j, a) ∷ l) (there k b e es q))
        | inr (inr q) ↦ ap (put j a) (after k b e es q) ∙ elim (three (name_cmp j e.0)) [
          | inl p ↦ before j a e (put k b es) p ∙ sym (ap (put k b) (before j a e es p) ∙ k_after (e ∷ es) ∙ ap (λ (l : Named A). (j, a) ∷ l) (after k b e es q))
          | inr (inl p) ↦ there j a e (put k b es) p ∙ sym (ap (put k b) (there j a e es p) ∙ k_after es)
          | inr (inr p) ↦ after j a e (put k b es) p ∙ ap (λ (l : Named A). e ∷ l) (put_swap j k a b es h) ∙ sym (ap (put k b) (after j a e es p) ∙ after k b e (put j a es) q)
        ]
      ]

  twice : (b : Bool) (x y z : Option A) → cond b x z ≡ cond b x (cond b y z)
  twice true x y z = refl
  twice false x y z = refl

  swapped : (b c : Bool) (x y z : Option A) → (b ≡ true → c ≡ true → ⊥) → cond c y (cond b x z) ≡ cond b x (cond c y z)
  swapped true true x y z h = absurd (h refl refl)
  swapped true false x y z h = refl
  swapped false true x y z h = refl
  swapped false false x y z h = refl

  -- what is found after a thing was put
  pub at_put : (n k : Name) (a : A) (es : Named A) → at_name n (put k a es) ≡ cond (bytes_eq n k) (Some a) (at_name n es)
  at_put n k a [] = refl
  at_put n k a (e ∷ es) = elim (three (name_cmp k e.0)) [
    | inl h ↦ ap (at_name n) (before k a e es h)
    | inr (inl h) ↦ ap (at_name n) (there k a e es h) ∙ twice (bytes_eq n k) (Some a) (Some e.1) (at_name n es) ∙ ap (λ (j : Name). cond (bytes_eq n k) (Some a) (cond (bytes_eq n j) (Some e.1) (at_name n es))) (exact_bytes k e.0 h)
    | inr (inr h) ↦ ap (at_name n) (after k a e es h) ∙ ap (λ (o : Option A). cond (bytes_eq n e.0) (Some e.1) o) (at_put n k a es) ∙ swapped (bytes_eq n k) (bytes_eq n e.0) (Some a) (Some e.1) (at_name n es) (differ n k e.0 h)
  ]

  -- a look-up among the entries is one by name
  pub found : (es : Named A) (n : Name) → lookup (λ k. bytes_eq n k) es ≡ at_name n (by_name es)
  found [] n = refl
  found (e ∷ es) n = ap (λ (o : Option A). cond (bytes_eq n e.0) (Some e.1) o) (found es n) ∙ sym (at_put n e.0 e.1 (by_name es))

  by_test : (b : Bool) (e : Name × A) (es more : Named A) (k : Name) (a : A) → bytes_eq k e.0 ≡ b → by_name more ≡ put k a (by_name es) → by_name (if b then (e.0, a) ∷ es else e ∷ more) ≡ put k a (by_name (e ∷ es))
  by_test true e es more k a h g =
      let tie : k ≡ e.0 = (bytes_decides k e.0).0 h in
      sym (put_again e.0 a e.1 (by_name es)) ∙ ap (λ (n : Name). put n a (put e.0 e.1 (by_name es))) (sym tie)
  by_test false e es more k a h g = ap (put e.0 e.1) g ∙ elim (three (name_cmp e.0 k)) [
    | inl p ↦ put_swap e.0 k e.1 a (by_name es) p
    | inr (inl p) ↦
        let t : bytes_eq k e.0 ≡ true = (bytes_decides k e.0).1 (sym (exact_bytes e.0 k p)) in
        cc
    | inr (inr p) ↦ sym (put_swap k e.0 a e.1 (by_name es) (flip_greater e.0 k p))
  ]

  -- an entry that is inserted is put at its name
  pub inserted : (es : Named A) (k : Name) (a : A) → by_name (insert_entry bytes_eq es k a) ≡ put k a (by_name es)
  inserted [] k a = refl
  inserted (e ∷ es) k a = by_test (bytes_eq k e.0) e es (insert_entry bytes_eq es k a) k a refl (inserted es k a)

  -- so is one that is inserted into an ordered map from names
  pub name_inserted : (es : Named A) (k : Name) (a : A) → insert_ordered name_cmp es k a ≡ put k a es
  name_inserted [] k a = refl
  name_inserted (e ∷ es) k a =
      let chosen : Ordering → Named A = λ o. match_ordering o ((k, a) ∷ e ∷ es) ((e.0, a) ∷ es) (e ∷ insert_ordered name_cmp es k a) in
      elim (three (name_cmp k e.0)) [
        | inl h ↦ ap chosen h ∙ sym (before k a e es h)
        | inr (inl h) ↦ ap chosen h ∙ ap (λ (n : Name). (n, a) ∷ es) (sym (exact_bytes k e.0 h)) ∙ sym (there k a e es h)
        | inr (inr h) ↦ ap chosen h ∙ ap (λ (l : Named A). e ∷ l) (name_inserted es k a) ∙ sym (after k a e es h)
      ]

-- the entries of an ordered map from texts, by name
abbrev pub texts : {Z A : Type 0} → List (String Z × A) → Named A
texts es = map (λ e. (string_bytes e.0, e.1)) es

module _ {Z A : Type 0} where
  -- an entry that is inserted there is put at its name
  pub text_inserted : (es : List (String Z × A)) (k : String Z) (a : A) → texts (insert_ordered string_cmp es k a) ≡ put (string_bytes k) a (texts es)
  text_inserted [] k a = refl
  text_inserted (x ∷ es) k a =
      let chosen : Ordering → Named A = λ o. texts (match_ordering o ((k, a) ∷ x ∷ es) ((x.0, a) ∷ es) (x ∷ insert_ordered string_cmp es k a)) in
      let first : Name × A = (string_bytes x.0, x.1) in
      elim (three (name_cmp (string_bytes k) (string_bytes x.0))) [
        | inl h ↦ ap chosen h ∙ sym (before (string_bytes k) a first (texts es) h)
        | inr (inl h) ↦ ap chosen h ∙ ap (λ (n : Name). (n, a) ∷ texts es) (sym (exact_bytes (string_bytes k) (string_bytes x.0) h)) ∙ sym (there (string_bytes k) a first (texts es) h)
        | inr (inr h) ↦ ap chosen h ∙ ap (λ (l : Named A). first ∷ l) (text_inserted es k a) ∙ sym (after (string_bytes k) a first (texts es) h)
      ]

  pub text_names : (es : List (String Z × A)) → map string_bytes (keys_of es) ≡ map (λ e. e.0) (texts es)
  text_names [] = refl
  text_names (e ∷ es) = ap (λ (l : List Name). string_bytes e.0 ∷ l) (text_names es)
