-- A search among names in byte order, and what is put where it ends.
use Rattle.std.proofs.Common.{◌≡◌, ◌≤◌, ◌<◌, ℕ, zero, suc, inl, inr, Bool, true, false, [], ◌∷◌, length, get_or, set, Some, None, Result, Ok, Err, refl, sym, ap, ◌∙◌, subst, cond, map, arith, Ordering, Less, Equal, Greater}
use Rattle.std.specs.List.{AllByRecursion, HoldsAt, insert}
use Rattle.std.specs.List.Sorted.{IsStrictlySortedBy, IsBinarySearchResult, IsSearchInRange, IsPartitionPoint, IsNonDecreasingBy}
use Rattle.std.specs.Ordering.{match_ordering, ordering_index, ordering_reverse}
use Rattle.std.specs.Str.{bytes_eq}
use Rattle.std.specs.Cmp.Lexicographic.{bytes_decides}
use Rattle.std.proofs.lemmas.Cmp.{tied_itself}
use Rattle.std.proofs.lemmas.Map.Lookups.{exact_bytes}
use Rattle.tera_errors.specs.Site.{Name}
use Rattle.tera_values.specs.Named.{Named, name_cmp, at_name, put, position, further, IsAscending}
use Rattle.tera_values.proofs.Named.{names_total, three, flip_less, flip_greater, before, there, after}

unequal : (n k : Name) → (name_cmp n k ≡ Equal → ⊥) → bytes_eq n k ≡ false
unequal n k h = by (bytes_eq n k) refl
  where
    by : (b : Bool) → bytes_eq n k ≡ b → b ≡ false
    by true e = absurd (h (ap (name_cmp n) (sym ((bytes_decides n k).0 e)) ∙ tied_itself names_total n))
    by false e = refl

at_most_two : (o : Ordering) → ordering_index o ≤ 2
at_most_two Less = omega arith
at_most_two Equal = omega arith
at_most_two Greater = omega arith

-- of two names, the lower one compares no higher
compared_lower : (j k n : Name) → name_cmp j k ≡ Less → ordering_index (name_cmp j n) ≤ ordering_index (name_cmp k n)
compared_lower j k n h = elim (three (name_cmp k n)) [
  | inl q ↦ omega (arith, ap ordering_index (names_total.trans j k n h q))
  | inr (inl q) ↦ omega (arith, ap ordering_index (ap (name_cmp j) (sym (exact_bytes k n q)) ∙ h))
  | inr (inr q) ↦ omega (arith, ap ordering_index q, at_most_two (name_cmp j n))
]

unfurther : (r : Result ℕ ℕ) (at : ℕ) → further r ≡ Ok at → (i : ℕ) × (r ≡ Ok i) × (at ≡ suc i)
unfurther (Ok i) at h = (i, refl, cc)
unfurther (Err i) at h = cc

unfurther_err : (r : Result ℕ ℕ) (at : ℕ) → further r ≡ Err at → (i : ℕ) × (r ≡ Err i) × (at ≡ suc i)
unfurther_err (Ok i) at h = cc
unfurther_err (Err i) at h = (i, refl, cc)

module _ {A : Type 0} where
  -- the answer that one comparison gives
  position_before : (n : Name) (e : Name × A) (es : Named A) → name_cmp n e.0 ≡ Less → position n (e ∷ es) ≡ Err 0
  position_before n e es h = ap (λ (o : Ordering). match_ordering o (Err 0) (Ok 0) (further (position n es))) h

  position_there : (n : Name) (e : Name × A) (es : Named A) → name_cmp n e.0 ≡ Equal → position n (e ∷ es) ≡ Ok 0
  position_there n e es h = ap (λ (o : Ordering). match_ordering o (Err 0) (Ok 0) (further (position n es))) h

  position_after : (n : Name) (e : Name × A) (es : Named A) → name_cmp n e.0 ≡ Greater → position n (e ∷ es) ≡ further (position n es)
  position_after n e es h = ap (λ (o : Ordering). match_ordering o (Err 0) (Ok 0) (further (position n es))) h

  named_at : (P : Name → Type 0) (es : Named A) (i : ℕ) (d : Name × A) → AllByRecursion P (map (λ e. e.0) es) → i < length es → P (get_or es i d).0
  named_at P [] i d h within = absurd (omega arith)
  named_at P (e ∷ es) zero d h within = h.0
  named_at P (e ∷ es) (suc i) d h within = named_at P es i d h.1 (omega arith)

  -- the comparisons with a name rise along names in byte order
  rises : (n : Name) (es : Named A) → IsAscending es → IsNonDecreasingBy (λ e. ordering_index (name_cmp e.0 n)) es
  unfolding IsStrictlySortedBy
  rises n [] h i j d below within = absurd (omega arith)
  rises n (e ∷ es) h zero zero d below within = omega arith
  rises n (e ∷ es) h zero (suc j) d below within = compared_lower e.0 (get_or es j d).0 n (named_at (λ k. name_cmp e.0 k ≡ Less) es j d h.0 (omega arith))
  rises n (e ∷ es) h (suc i) zero d below within = absurd (omega arith)
  rises n (e ∷ es) h (suc i) (suc j) d below within = rises n es h.1 i j d (omega arith) (omega arith)

  found_at : (n : Name) (es : Named A) (at : ℕ) → IsAscending es → at < length es → HoldsAt (λ e. name_cmp e.0 n ≡ Equal) es at → Ok at ≡ position n es
  unfolding IsStrictlySortedBy
  found_at n [] at up within h = absurd (omega arith)
  found_at n (e ∷ es) zero up within h = sym (position_there n e es (names_total.antisymm n e.0 ∙ ap ordering_reverse (h e)))
  found_at n (e ∷ es) (suc at) up within h =
      let k = (get_or es at e).0 in
      let lower : name_cmp e.0 k ≡ Less = named_at (λ j. name_cmp e.0 j ≡ Less) es at e up.0 (omega arith) in
      let same : k ≡ n = exact_bytes k n (h e) in
      sym (position_after n e es (flip_less e.0 n (ap (name_cmp e.0) (sym same) ∙ lower)) ∙ ap further (sym (found_at n es at up.1 (omega arith) h)))

  parted_at : (n : Name) (es : Named A) (at : ℕ) → at ≤ length es → IsPartitionPoint (λ e. name_cmp e.0 n ≡ Less) (λ e. name_cmp e.0 n ≡ Greater) es at → Err at ≡ position n es
  parted_at n [] zero within h = refl
  parted_at n [] (suc at) within h = absurd (omega arith)
  parted_at n (e ∷ es) zero within h = sym (position_before n e es (flip_greater e.0 n (h.1 0 e (omega arith) (omega arith))))
  parted_at n (e ∷ es) (suc at) within h =
      let rest = parted_at n es at (omega arith) (λ k d low high. h.0 (suc k) d (omega arith) (omega arith), λ k d low high. h.1 (suc k) d (omega arith) (omega arith)) in
      sym (position_after n e es (flip_less e.0 n (h.0 0 e (omega arith) (omega arith))) ∙ ap further (sym rest))

  -- a binary search ends at the position of the name
  pub searched : (n : Name) (es : Named A) (r : Result ℕ ℕ) → IsAscending es → IsSearchInRange r (length es) → IsBinarySearchResult (λ e. name_cmp e.0 n) es r → r ≡ position n es
  searched n es (Ok at) up within h = found_at n es at up within h
  searched n es (Err at) up within h = parted_at n es at within (h (rises n es up))

  pub stands_within : (n : Name) (es : Named A) (at : ℕ) → position n es ≡ Ok at → at < length es
  stands_within n [] at h = cc
  stands_within n (e ∷ es) at h = elim (three (name_cmp n e.0)) [
    | inl q ↦ absurd (let c : Err 0 ≡ Ok at = sym (position_before n e es q) ∙ h in cc)
    | inr (inl q) ↦ let first : 0 ≡ at = cc (sym (position_there n e es q) ∙ h) in omega arith
    | inr (inr q) ↦
        let next = unfurther (position n es) at (sym (position_after n e es q) ∙ h) in
        omega (arith, stands_within n es next.0 next.1, next.2)
  ]

  -- a name that stands is written over
  pub put_over : (n : Name) (a : A) (es : Named A) (at : ℕ) → position n es ≡ Ok at → put n a es ≡ set es at (n, a)
  put_over n a [] at h = cc
  put_over n a (e ∷ es) at h = elim (three (name_cmp n e.0)) [
    | inl q ↦ absurd (let c : Err 0 ≡ Ok at = sym (position_before n e es q) ∙ h in cc)
    | inr (inl q) ↦
        let first : 0 ≡ at = cc (sym (position_there n e es q) ∙ h) in
        there n a e es q ∙ ap (λ (i : ℕ). set (e ∷ es) i (n, a)) first
    | inr (inr q) ↦
        let next = unfurther (position n es) at (sym (position_after n e es q) ∙ h) in
        after n a e es q ∙ ap (λ (l : Named A). e ∷ l) (put_over n a es next.0 next.1) ∙ ap (λ (i : ℕ). set (e ∷ es) i (n, a)) (sym next.2)
  ]

  -- and another goes in
  pub put_in : (n : Name) (a : A) (es : Named A) (at : ℕ) → position n es ≡ Err at → (at ≤ length es) × (put n a es ≡ insert es at (n, a))
  put_in n a [] at h = let first : 0 ≡ at = cc in subst (λ (i : ℕ). (i ≤ 0) × (put n a [] ≡ insert [] i (n, a))) first (omega arith, refl)
  put_in n a (e ∷ es) at h = elim (three (name_cmp n e.0)) [
    | inl q ↦
        let first : 0 ≡ at = cc (sym (position_before n e es q) ∙ h) in
        subst (λ (i : ℕ). (i ≤ length (e ∷ es)) × (put n a (e ∷ es) ≡ insert (e ∷ es) i (n, a))) first (omega arith, before n a e es q)
    | inr (inl q) ↦ absurd (let c : Ok 0 ≡ Err at = sym (position_there n e es q) ∙ h in cc)
    | inr (inr q) ↦
        let next = unfurther_err (position n es) at (sym (position_after n e es q) ∙ h) in
        let rest = put_in n a es next.0 next.1 in
        subst (λ (i : ℕ). (i ≤ length (e ∷ es)) × (put n a (e ∷ es) ≡ insert (e ∷ es) i (n, a))) (sym next.2) (omega arith, after n a e es q ∙ ap (λ (l : Named A). e ∷ l) rest.1)
  ]

  -- what is read at the position is what the name finds
  pub at_position : (n : Name) (es : Named A) (at : ℕ) (d : Name × A) → position n es ≡ Ok at → at_name n es ≡ Some (get_or es at d).1
  at_position n [] at d h = cc
  at_position n (e ∷ es) at d h = elim (three (name_cmp n e.0)) [
    | inl q ↦ absurd (let c : Err 0 ≡ Ok at = sym (position_before n e es q) ∙ h in cc)
    | inr (inl q) ↦
        let first : 0 ≡ at = cc (sym (position_there n e es q) ∙ h) in
        ap (λ (b : Bool). cond b (Some e.1) (at_name n es)) ((bytes_decides n e.0).1 (exact_bytes n e.0 q)) ∙ ap (λ (i : ℕ). Some (get_or (e ∷ es) i d).1) first
    | inr (inr q) ↦
        let next = unfurther (position n es) at (sym (position_after n e es q) ∙ h) in
        ap (λ (b : Bool). cond b (Some e.1) (at_name n es)) (unequal n e.0 (λ same. cc)) ∙ at_position n es next.0 d next.1 ∙ ap (λ (i : ℕ). Some (get_or (e ∷ es) i d).1) (sym next.2)
  ]

  lower_than_all : (n : Name) (e : Name × A) (es : Named A) → name_cmp n e.0 ≡ Less → IsAscending (e ∷ es) → at_name n (e ∷ es) ≡ None
  unfolding IsStrictlySortedBy
  lower_than_all n e [] h up = ap (λ (b : Bool). cond b (Some e.1) None) (unequal n e.0 (λ same. cc))
  lower_than_all n e (f ∷ es) h up =
      ap (λ (b : Bool). cond b (Some e.1) (at_name n (f ∷ es))) (unequal n e.0 (λ same. cc)) ∙ lower_than_all n f es (names_total.trans n e.0 f.0 h up.0.0) up.1

  pub nothing_stands : (n : Name) (es : Named A) (at : ℕ) → IsAscending es → position n es ≡ Err at → at_name n es ≡ None
  unfolding IsStrictlySortedBy
  nothing_stands n [] at up h = refl
  nothing_stands n (e ∷ es) at up h = elim (three (name_cmp n e.0)) [
    | inl q ↦ lower_than_all n e es q up
    | inr (inl q) ↦ absurd (let c : Ok 0 ≡ Err at = sym (position_there n e es q) ∙ h in cc)
    | inr (inr q) ↦
        let next = unfurther_err (position n es) at (sym (position_after n e es q) ∙ h) in
        ap (λ (b : Bool). cond b (Some e.1) (at_name n es)) (unequal n e.0 (λ same. cc)) ∙ nothing_stands n es next.0 up.1 next.1
  ]
