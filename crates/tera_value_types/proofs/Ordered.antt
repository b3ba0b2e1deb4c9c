-- An order in pieces: what is found in the right piece is found in the whole.
use Rattle.std.proofs.Common.{◌≡◌, inl, inr, ℕ, zero, suc, ◌+◌, ◌-◌, ◌<◌, ◌≤◌, List, length, get_or, set, take, drop, Some, refl, sym, ap, subst, ◌∙◌, arith, add-one, Ordering, Less, Equal, Greater}
use Rattle.std.specs.List.{concat, insert}
use Rattle.std.proofs.lemmas.Bool.{cases_lt}
use Rattle.tera_value_types.specs.Val.{Val, KeyVal}
use Rattle.tera_value_types.specs.Keys.{key_cmp}
use Rattle.tera_value_types.specs.Index.{key_at, nth_key, IsIndex, IsRising, IsAt, IsGapFor}
use Rattle.tera_value_types.specs.Access.{find, insert_pair}
use Rattle.tera_value_types.specs.KeyOrder.{pieces, flat, IsFull, IsKept, Stands, HasGap}
use Rattle.std.specs.Global.{Global}
use Rattle.std.specs.declared.vec.Vec.{Vec}
use Rattle.std.proofs.lemmas.List.{length-map}
use Rattle.tera_value_types.specs.declared.key_order.KeyOrder.{KeyOrder}
use Rattle.tera_value_types.proofs.Keys.{keys_total, key_exact, flip_Less, flip_Greater}
use Rattle.tera_value_types.proofs.Positions.{Pairs, value_at, found, written}
use Rattle.tera_value_types.proofs.Pieces.{Rows, row, ahead, one_further, all_ahead, read, within, LaterHaveSome, cut_same, cut_some}

-- the steps of the search in one piece
module _ (by_key : List ℕ) (es : Pairs) (ix : IsRising by_key es) where
  pub less_in_row : (k : KeyVal) (m : ℕ) → m < length by_key → key_cmp (nth_key by_key es m) k ≡ Less → (j : ℕ) → j < m + 1 → key_cmp (nth_key by_key es j) k ≡ Less
  less_in_row k m h less j lt = elim (cases_lt j m) [
    | inl below ↦ keys_total.trans (nth_key by_key es j) (nth_key by_key es m) k (ix.rising j m below h) less
    | inr above ↦ let same : m ≡ j = omega arith in rw same at less
  ]

  pub greater_in_row : (k : KeyVal) (m : ℕ) → key_cmp (nth_key by_key es m) k ≡ Greater → (j : ℕ) → m ≤ j → j < length by_key → key_cmp (nth_key by_key es j) k ≡ Greater
  greater_in_row k m greater j le h = elim (cases_lt m j) [
    | inl above ↦ flip_Less k (nth_key by_key es j) (keys_total.trans k (nth_key by_key es m) (nth_key by_key es j) (flip_Greater (nth_key by_key es m) k greater) (ix.rising m j above h))
    | inr below ↦ let same : m ≡ j = omega arith in rw same at greater
  ]

up_to_by : (a b c : KeyVal) → key_cmp a b ≡ Less → (key_cmp b c ≡ Greater → ⊥) → (o : Ordering) → key_cmp b c ≡ o → key_cmp a c ≡ Less
up_to_by a b c h ne Less e = keys_total.trans a b c h e
up_to_by a b c h ne Equal e = subst (λ k. key_cmp a k ≡ Less) (key_exact b c e) h
up_to_by a b c h ne Greater e = absurd (ne e)

up_to : (a b c : KeyVal) → key_cmp a b ≡ Less → (key_cmp b c ≡ Greater → ⊥) → key_cmp a c ≡ Less
up_to a b c h ne = up_to_by a b c h ne (key_cmp b c) refl

some_ahead : (ps : Rows) (n : ℕ) → 0 < ahead ps n → 0 < n
some_ahead ps zero h = absurd (omega (arith, h))
some_ahead ps (suc n) h = omega arith

module _ (ps : Rows) (es : Pairs) (ix : IsIndex (concat ps) es) (n : ℕ) (h : n < length ps) where
  key_in : (p : ℕ) → p < length (row ps n) → nth_key (concat ps) es (ahead ps n + p) ≡ nth_key (row ps n) es p
  key_in p g = ap (key_at es) (read ps n p h g)

  pub rising_row : IsRising (row ps n) es
  rising_row = record {
    below = λ p g. subst (λ i. i < length es) (read ps n p h g) (ix.below (ahead ps n + p) (omega (arith, within ps n h)));
    rising = λ p q lt g.
        let g2 : p < length (row ps n) = omega arith in
        let range : ahead ps n + q < length (concat ps) = omega (arith, within ps n h) in
        subst (λ a. key_cmp a (nth_key (row ps n) es q) ≡ Less) (key_in p g2) (subst (λ b. key_cmp (nth_key (concat ps) es (ahead ps n + p)) b ≡ Less) (key_in q g) (ix.rising (ahead ps n + p) (ahead ps n + q) (omega arith) range));
  }

  pub at_in_whole : (k : KeyVal) (p : ℕ) → IsAt (row ps n) es k p → IsAt (concat ps) es k (ahead ps n + p)
  at_in_whole k p at = record {
    in_range = omega (arith, within ps n h, at.in_range);
    has_key = key_in p at.in_range ∙ at.has_key;
  }

  module _ (k : KeyVal) (p : ℕ) (gap : IsGapFor (row ps n) es k p) where
    smaller : (0 < n → 0 < length (row ps n)) → (0 < n → key_cmp (nth_key (row ps n) es 0) k ≡ Greater → ⊥) → (j : ℕ) → j < ahead ps n + p → key_cmp (nth_key (concat ps) es j) k ≡ Less
    smaller filled from j lt = elim (cases_lt j (ahead ps n)) [
      | inl below ↦
          let later : 0 < n = some_ahead ps n (omega arith) in
          let some : 0 < length (row ps n) = filled later in
          let first : nth_key (concat ps) es (ahead ps n + 0) ≡ nth_key (row ps n) es 0 = key_in 0 some in
          let less : key_cmp (nth_key (concat ps) es j) (nth_key (concat ps) es (ahead ps n + 0)) ≡ Less = ix.rising j (ahead ps n + 0) (omega arith) (omega (arith, within ps n h)) in
          up_to (nth_key (concat ps) es j) (nth_key (row ps n) es 0) k (subst (λ b. key_cmp (nth_key (concat ps) es j) b ≡ Less) first less) (from later)
      | inr above ↦
          let q : ℕ = j - ahead ps n in
          let place : ahead ps n + (j - ahead ps n) ≡ j = omega arith in
          let here : nth_key (concat ps) es (ahead ps n + (j - ahead ps n)) ≡ nth_key (row ps n) es (j - ahead ps n) = key_in (j - ahead ps n) (omega (arith, gap.in_range)) in
          subst (λ i. key_cmp (nth_key (concat ps) es i) k ≡ Less) place (subst (λ a. key_cmp a k ≡ Less) (sym here) (gap.smaller_before (j - ahead ps n) (omega arith)))
    ]

    beyond : (suc n < length ps → 0 < length (row ps (suc n))) → (suc n < length ps → key_cmp (nth_key (row ps (suc n)) es 0) k ≡ Greater) → (j : ℕ) → ahead ps (suc n) ≤ j → j < length (concat ps) → key_cmp (nth_key (concat ps) es j) k ≡ Greater
    beyond next until j le lt = elim (cases_lt (suc n) (length ps)) [
      | inl more ↦
          let first : nth_key (concat ps) es (ahead ps (suc n) + 0) ≡ nth_key (row ps (suc n)) es 0 = ap (key_at es) (read ps (suc n) 0 more (next more)) in
          greater_in_row (concat ps) es (record { below = ix.below; rising = ix.rising }) k (ahead ps (suc n) + 0) (subst (λ a. key_cmp a k ≡ Greater) (sym first) (until more)) j (omega arith) lt
      | inr none ↦ absurd (omega (arith, all_ahead ps (suc n) none))
    ]

    greater : (suc n < length ps → 0 < length (row ps (suc n))) → (suc n < length ps → key_cmp (nth_key (row ps (suc n)) es 0) k ≡ Greater) → (j : ℕ) → ahead ps n + p ≤ j → j < length (concat ps) → key_cmp (nth_key (concat ps) es j) k ≡ Greater
    greater next until j le lt = elim (cases_lt j (ahead ps n + length (row ps n))) [
      | inl inside ↦
          let place : ahead ps n + (j - ahead ps n) ≡ j = omega arith in
          let here : nth_key (concat ps) es (ahead ps n + (j - ahead ps n)) ≡ nth_key (row ps n) es (j - ahead ps n) = key_in (j - ahead ps n) (omega arith) in
          subst (λ i. key_cmp (nth_key (concat ps) es i) k ≡ Greater) place (subst (λ a. key_cmp a k ≡ Greater) (sym here) (gap.greater_after (j - ahead ps n) (omega arith) (omega arith)))
      | inr outside ↦ beyond next until j (omega (arith, one_further ps n h)) lt
    ]

    pub gap_in_whole : (0 < n → 0 < length (row ps n)) → (0 < n → key_cmp (nth_key (row ps n) es 0) k ≡ Greater → ⊥) → (suc n < length ps → 0 < length (row ps (suc n))) → (suc n < length ps → key_cmp (nth_key (row ps (suc n)) es 0) k ≡ Greater) → IsGapFor (concat ps) es k (ahead ps n + p)
    gap_in_whole filled from next until = record {
      in_range = omega (arith, within ps n h, gap.in_range);
      smaller_before = smaller filled from;
      greater_after = greater next until;
    }

-- a later piece has a position
pub later_filled : (o : KeyOrder) → IsFull o → LaterHaveSome (pieces o)
later_filled o full zero g h = absurd (omega (arith, g))
later_filled o full (suc n) g h = full.has_one n (omega (arith, h, length-map o.rest.items (λ (v : Vec ℕ Global). v.items)))

pub full_again : (o : KeyOrder) → LaterHaveSome (pieces o) → IsFull o
full_again o some = record { has_one = λ n h. some (suc n) (omega arith) (omega (arith, h, length-map o.rest.items (λ (v : Vec ℕ Global). v.items))) }

there : (o : KeyOrder) (n : ℕ) → n ≤ length o.rest.items → n < length (pieces o)
there o n h = omega (arith, h, length-map o.rest.items (λ (v : Vec ℕ Global). v.items))

later_there : (o : KeyOrder) (n : ℕ) → suc n < length (pieces o) → n < length o.rest.items
later_there o n h = omega (arith, h, length-map o.rest.items (λ (v : Vec ℕ Global). v.items))

-- the same of the order of a map
module _ (o : KeyOrder) (es : Pairs) (kept : IsKept o es) (n : ℕ) (h : n ≤ length o.rest.items) where
  pub rising_piece : IsRising (row (pieces o) n) es
  rising_piece = rising_row (pieces o) es kept.index n (there o n h)

  pub some_in : 0 < n → 0 < length (row (pieces o) n)
  some_in later = later_filled o kept.full n later (there o n h)

  pub stands : (k : KeyVal) (p : ℕ) → IsAt (row (pieces o) n) es k p → Stands (flat o) es k (get_or (row (pieces o) n) p 0)
  stands k p at = record {
    place = ahead (pieces o) n + p;
    at = at_in_whole (pieces o) es kept.index n (there o n h) k p at;
    is = read (pieces o) n p (there o n h) at.in_range;
  }

  pub lacks : (k : KeyVal) (p : ℕ) → (0 < n → key_cmp (nth_key (row (pieces o) n) es 0) k ≡ Greater → ⊥) → (n < length o.rest.items → key_cmp (nth_key (row (pieces o) (n + 1)) es 0) k ≡ Greater) → IsGapFor (row (pieces o) n) es k p → HasGap o es k (record { piece = n; at = p })
  lacks k p from until gap = record {
    inside = record { piece = h; at = gap.in_range };
    gap = gap_in_whole (pieces o) es kept.index n (there o n h) k p gap
        (λ later. later_filled o kept.full n later (there o n h))
        from
        (λ more. later_filled o kept.full (suc n) (omega arith) more)
        (λ more. let step : n + 1 ≡ suc n = add-one n in subst (λ m. key_cmp (nth_key (row (pieces o) m) es 0) k ≡ Greater) step (until (later_there o n more)));
  }

-- an entry that stands at a position of the order
module _ (order : List ℕ) (es : Pairs) (ix : IsIndex order es) (k : KeyVal) (i : ℕ) (s : Stands order es k i) where
  pub stands_below : i < length es
  stands_below = subst (λ (j : ℕ). j < length es) s.is (ix.below s.place s.at.in_range)

  pub stands_found : find k es ≡ Some (value_at es i)
  stands_found = found order es ix k s.place s.at ∙ ap (λ (j : ℕ). Some (value_at es j)) s.is

  pub stands_written : {now : Pairs} → es ≡ now → (v : Val) → set now i (key_at now i, v) ≡ insert_pair now k v
  stands_written {now} view v =
      let step : insert_pair es k v ≡ set es i (key_at es i, v) = written order es ix k s.place v s.at ∙ ap (λ (j : ℕ). set es j (key_at es j, v)) s.is in
      subst (λ (fs : Pairs). set fs i (key_at fs i, v) ≡ insert_pair fs k v) view (sym step)

-- the same pieces of the same entries
pub kept_again : (o q : KeyOrder) (es fs : Pairs) → pieces q ≡ pieces o → fs ≡ es → IsKept o es → IsKept q fs
kept_again o q es fs e f kept = record {
  full = full_again q (subst LaterHaveSome (sym e) (later_filled o kept.full));
  index = subst (IsIndex (flat q)) (sym f) (subst (λ (l : Rows). IsIndex (concat l) es) (sym e) kept.index);
}

-- an order of which a piece was cut in two
module _ (o q r : KeyOrder) (n k : ℕ) (b : List ℕ) (h : n ≤ length o.rest.items) (long : k < length (row (pieces o) n)) (behind : b ≡ drop k (row (pieces o) n)) (added : pieces q ≡ insert (pieces o) (suc n) b) (short : pieces r ≡ set (pieces q) n (take k (row (pieces q) n))) where
  cut_pieces : pieces r ≡ set (insert (pieces o) (suc n) b) n (take k (row (insert (pieces o) (suc n) b) n))
  cut_pieces = short ∙ ap (λ (l : Rows). set l n (take k (row l n))) added

  pub cut_flat : flat r ≡ flat o
  cut_flat = ap concat cut_pieces ∙ cut_same (pieces o) n k b (there o n h) long behind

  pub cut_full : 0 < k → IsFull o → IsFull r
  cut_full some full = full_again r (subst LaterHaveSome (sym cut_pieces) (cut_some (pieces o) n k b (there o n h) long behind some (later_filled o full)))
