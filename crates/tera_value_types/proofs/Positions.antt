-- What an index says of the entries, and what an edit does to both.
use Rattle.std.proofs.Common.{◌≡◌, inl, inr, ℕ, zero, suc, ◌+◌, ◌-◌, ◌<◌, ◌≤◌, true, false, List, [], ◌∷◌, ◌++◌, length, get_or, set, Some, None, refl, sym, ap, ◌∙◌, subst, arith, Ordering, Less, Equal, Greater, is_eq, is_some, true≢false}
use Rattle.std.specs.List.{insert}
use Rattle.std.proofs.lemmas.Bool.{cases_lt}
use Rattle.std.proofs.Math.ListN.{length-set, get_or-append}
use Rattle.std.proofs.lemmas.List.{length-append}
use Rattle.std.proofs.Math.Seq.{get_or-append_seam}
use Rattle.std.specs.Ordering.{ordering_reverse}
use Rattle.std.proofs.lemmas.List.Edits.{length-insert, get_or-insert_below, get_or-insert_at, get_or-insert_above}
use Rattle.tera_value_types.specs.Val.{Val, KeyVal, kbool, undefined}
use Rattle.tera_value_types.specs.Keys.{key_cmp}
use Rattle.tera_value_types.specs.Index.{key_at, nth_key, IsIndex, IsAt, IsGapFor}
use Rattle.tera_value_types.specs.Access.{key_eq, find, insert_pair}
use Rattle.tera_value_types.proofs.Keys.{keys_total, key_tied, flip_Less, flip_Greater}

abbrev pub Pairs : Type 0
Pairs = List (KeyVal × Val)

abbrev pub value_at : Pairs → ℕ → Val
value_at es i = let e = get_or es i (kbool false, undefined) in e.1

-- no entry before position i has the key
abbrev pub NoKeyBefore : Pairs → KeyVal → ℕ → Type 0
NoKeyBefore es k i = (j : ℕ) → j < i → key_eq k (key_at es j) ≡ false

later : (e : KeyVal × Val) (es : Pairs) (k : KeyVal) (i : ℕ) → NoKeyBefore (e ∷ es) k (suc i) → NoKeyBefore es k i
later e es k i free j lt = free (suc j) (omega arith)

pub find_absent : (es : Pairs) (k : KeyVal) → NoKeyBefore es k (length es) → find k es ≡ None
find_absent [] k free = refl
find_absent (e ∷ es) k free = rw (free 0 (omega arith)) (find_absent es k (later e es k _ free))

pub find_present : (es : Pairs) (k : KeyVal) (i : ℕ) → i < length es → key_eq k (key_at es i) ≡ true → NoKeyBefore es k i → find k es ≡ Some (value_at es i)
find_present [] k i h e free = absurd (omega (arith, h))
find_present (x ∷ es) k zero h e free = rw e refl
find_present (x ∷ es) k (suc i) h e free = rw (free 0 (omega arith)) (find_present es k i (omega (arith, h)) e (later x es k i free))

pub insert_absent : (es : Pairs) (k : KeyVal) (v : Val) → NoKeyBefore es k (length es) → insert_pair es k v ≡ es ++ (k, v) ∷ []
insert_absent [] k v free = refl
insert_absent (e ∷ es) k v free = rw (free 0 (omega arith)) (ap (λ l. e ∷ l) (insert_absent es k v (later e es k _ free)))

pub insert_present : (es : Pairs) (k : KeyVal) (v : Val) (i : ℕ) → i < length es → key_eq k (key_at es i) ≡ true → NoKeyBefore es k i → insert_pair es k v ≡ set es i (key_at es i, v)
insert_present [] k v i h e free = absurd (omega (arith, h))
insert_present (x ∷ es) k v zero h e free = rw e refl
insert_present (x ∷ es) k v (suc i) h e free = rw (free 0 (omega arith)) (ap (λ l. x ∷ l) (insert_present es k v i (omega (arith, h)) e (later x es k i free)))

-- a write that leaves the key leaves all keys
pub key_at_set : (es : Pairs) (i : ℕ) (v : Val) (j : ℕ) → key_at (set es i (key_at es i, v)) j ≡ key_at es j
key_at_set [] i v j = refl
key_at_set (x ∷ es) zero v zero = refl
key_at_set (x ∷ es) zero v (suc j) = refl
key_at_set (x ∷ es) (suc i) v zero = refl
key_at_set (x ∷ es) (suc i) v (suc j) = key_at_set es i v j

not_tied : (o : Ordering) → (o ≡ Equal → ⊥) → is_eq o ≡ false
not_tied Less h = refl
not_tied Equal h = absurd (h refl)
not_tied Greater h = refl

pub less_not : (a b : KeyVal) → key_cmp a b ≡ Less → key_eq b a ≡ false
less_not a b h = rw (flip_Less a b h) refl

pub greater_not : (a b : KeyVal) → key_cmp a b ≡ Greater → key_eq b a ≡ false
greater_not a b h = rw (flip_Greater a b h) refl

module _ (by_key : List ℕ) (es : Pairs) (ix : IsIndex by_key es) where
  apart : (p q : ℕ) → p < q → q < length by_key → key_cmp (nth_key by_key es p) (nth_key by_key es q) ≡ Equal → ⊥
  apart p q lt h e = let less = ix.rising p q lt h in let both : Less ≡ Equal = sym less ∙ e in cc

  one_position : (p q : ℕ) → p < length by_key → q < length by_key → key_cmp (nth_key by_key es p) (nth_key by_key es q) ≡ Equal → p ≡ q
  one_position p q hp hq e = elim (cases_lt p q) [
    | inl lt ↦ absurd (apart p q lt hq e)
    | inr ge ↦ elim (cases_lt q p) [
      | inl lt ↦ absurd (apart q p lt hp (keys_total.antisymm (nth_key by_key es q) (nth_key by_key es p) ∙ ap (λ o. ordering_reverse o) e))
      | inr le ↦ omega arith
    ]
  ]

  -- no two entries have one key
  pub distinct : (i j : ℕ) → i < length es → j < length es → key_cmp (key_at es i) (key_at es j) ≡ Equal → i ≡ j
  distinct i j hi hj e =
      let p = ix.reached i hi in
      let q = ix.reached j hj in
      let same : key_cmp (nth_key by_key es p.0) (nth_key by_key es q.0) ≡ Equal = rw (p.2, q.2) e in
      let one : p.0 ≡ q.0 = one_position p.0 q.0 p.1 q.1 same in
      sym p.2 ∙ ap (λ r. get_or by_key r 0) one ∙ q.2

  pub first_at : (k : KeyVal) (p : ℕ) → IsAt by_key es k p → NoKeyBefore es k (get_or by_key p 0)
  first_at k p at j lt = not_tied _ (λ e.
      let there : get_or by_key p 0 < length es = ix.below p at.in_range in
      let tied : key_cmp (key_at es (get_or by_key p 0)) (key_at es j) ≡ Equal = rw at.has_key e in
      let one = distinct (get_or by_key p 0) j there (omega arith) tied in
      omega (arith, one))

  pub none_in_gap : (k : KeyVal) (p : ℕ) → IsGapFor by_key es k p → NoKeyBefore es k (length es)
  none_in_gap k p gap j lt =
      let q = ix.reached j lt in
      elim (cases_lt q.0 p) [
        | inl below ↦ less_not (key_at es j) k (rw q.2 at (gap.smaller_before q.0 below))
        | inr above ↦ greater_not (key_at es j) k (rw q.2 at (gap.greater_after q.0 above q.1))
      ]

  pub found : (k : KeyVal) (p : ℕ) → IsAt by_key es k p → find k es ≡ Some (value_at es (get_or by_key p 0))
  found k p at = find_present es k _ (ix.below p at.in_range) (rw at.has_key (ap is_eq (key_tied k))) (first_at k p at)

  pub not_found : (k : KeyVal) (p : ℕ) → IsGapFor by_key es k p → find k es ≡ None
  not_found k p gap = find_absent es k (none_in_gap k p gap)

  -- so a key with a gap is not there
  pub not_there : {w k : KeyVal} {p : ℕ} {now : Pairs} → w ≡ k → es ≡ now → IsGapFor by_key es w p → is_some (find k now) ≡ true → ⊥
  not_there {w} {k} {p} is view gap some = true≢false (sym some ∙ ap (λ f. is_some f) (sym (ap (find k) view) ∙ not_found k p (subst (λ j. IsGapFor by_key es j p) is gap)))

  pub written : (k : KeyVal) (p : ℕ) (v : Val) → IsAt by_key es k p → insert_pair es k v ≡ set es (get_or by_key p 0) (key_at es (get_or by_key p 0), v)
  written k p v at = insert_present es k v _ (ix.below p at.in_range) (rw at.has_key (ap is_eq (key_tied k))) (first_at k p at)

  pub pushed : (k : KeyVal) (p : ℕ) (v : Val) → IsGapFor by_key es k p → insert_pair es k v ≡ es ++ (k, v) ∷ []
  pushed k p v gap = insert_absent es k v (none_in_gap k p gap)

  -- a write of a value keeps the index
  pub kept : (i : ℕ) (v : Val) → IsIndex by_key (set es i (key_at es i, v))
  kept i v = record {
    below = λ p h. rw (length-set) (ix.below p h);
    rising = λ p q lt h. rw (key_at_set es i v (get_or by_key p 0), key_at_set es i v (get_or by_key q 0)) (ix.rising p q lt h);
    reached = λ j h. ix.reached j (rw length-set at h);
  }

  module _ (k : KeyVal) (v : Val) (p : ℕ) (gap : IsGapFor by_key es k p) where
    abbrev wider : List ℕ
    wider = insert by_key p (length es)

    abbrev longer : Pairs
    longer = es ++ (k, v) ∷ []

    wider_length : length wider ≡ length by_key + 1
    wider_length = length-insert by_key p (length es) gap.in_range

    longer_length : length longer ≡ length es + 1
    longer_length = omega (arith, length-append es ((k, v) ∷ []))

    position_below : (q : ℕ) → q < p → get_or wider q 0 ≡ get_or by_key q 0
    position_below q h = get_or-insert_below by_key p (length es) 0 q h gap.in_range

    position_here : get_or wider p 0 ≡ length es
    position_here = get_or-insert_at by_key p (length es) 0 gap.in_range

    position_above : (q r : ℕ) → p ≤ q → r ≡ q + 1 → get_or wider r 0 ≡ get_or by_key q 0
    position_above q r h e = rw e (get_or-insert_above by_key p (length es) 0 q h gap.in_range)

    old_key : (i : ℕ) → i < length es → key_at longer i ≡ key_at es i
    old_key i h = ap (λ (e : KeyVal × Val). e.0) (get_or-append es ((k, v) ∷ []) (kbool false, undefined) i h)

    new_key : key_at longer (length es) ≡ k
    new_key = ap (λ (e : KeyVal × Val). e.0) (get_or-append_seam es (k, v) [] (kbool false, undefined))

    key_below : (q : ℕ) → q < p → nth_key wider longer q ≡ nth_key by_key es q
    key_below q h = rw (position_below q h) (old_key _ (ix.below q (omega (arith, gap.in_range))))

    key_here : (q : ℕ) → q ≡ p → nth_key wider longer q ≡ k
    key_here q e = rw (e, position_here) new_key

    key_above : (q r : ℕ) → p ≤ q → q < length by_key → r ≡ q + 1 → nth_key wider longer r ≡ nth_key by_key es q
    key_above q r h l e = rw (position_above q r h e) (old_key _ (ix.below q l))

    -- a new entry goes last, and its position into the gap
    pub grown : IsIndex wider longer
    grown = record {
      below = λ q h. elim (cases_lt q p) [
        | inl lt ↦ omega (arith, position_below q lt, ix.below q, gap.in_range, longer_length)
        | inr ge ↦ elim (cases_lt p q) [
          | inl gt ↦ omega (arith, position_above (q - 1) q (omega arith) (omega arith), ix.below (q - 1), wider_length, longer_length)
          | inr le ↦ let same : p ≡ q = omega arith in rw (← same) (omega (arith, position_here, longer_length))
        ]
      ];
      rising = λ i j lt h. elim (cases_lt i p) [
        | inl i_below ↦ elim (cases_lt j p) [
          | inl j_below ↦ rw (key_below i i_below, key_below j j_below) (ix.rising i j lt (omega (arith, gap.in_range)))
          | inr j_from ↦ elim (cases_lt p j) [
            | inl j_above ↦ rw (key_below i i_below, key_above (j - 1) j (omega arith) (omega (arith, wider_length)) (omega arith)) (ix.rising i (j - 1) (omega arith) (omega (arith, wider_length)))
            | inr j_here ↦ rw (key_below i i_below, key_here j (omega arith)) (gap.smaller_before i i_below)
          ]
        ]
        | inr i_from ↦ elim (cases_lt p i) [
          | inl i_above ↦ rw (key_above (i - 1) i (omega arith) (omega (arith, wider_length)) (omega arith), key_above (j - 1) j (omega arith) (omega (arith, wider_length)) (omega arith)) (ix.rising (i - 1) (j - 1) (omega arith) (omega (arith, wider_length)))
          | inr i_here ↦ rw (key_here i (omega arith), key_above (j - 1) j (omega arith) (omega (arith, wider_length)) (omega arith)) (flip_Greater (nth_key by_key es (j - 1)) k (gap.greater_after (j - 1) (omega arith) (omega (arith, wider_length))))
        ]
      ];
      reached = λ i h. elim (cases_lt i (length es)) [
        | inl old ↦
            let q = ix.reached i old in
            elim (cases_lt q.0 p) [
              | inl lt ↦ (q.0, omega (arith, wider_length, q.1), position_below q.0 lt ∙ q.2)
              | inr ge ↦ (q.0 + 1, omega (arith, wider_length, q.1), position_above q.0 (q.0 + 1) ge refl ∙ q.2)
            ]
        | inr new ↦ (p, omega (arith, wider_length, gap.in_range), position_here ∙ omega (arith, longer_length))
      ];
    }
