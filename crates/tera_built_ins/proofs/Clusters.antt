-- Where a cluster stands.
use Rattle.std.proofs.Common.{◌≡◌, ℕ, zero, suc, ◌+◌, ◌<◌, ◌≤◌, true, false, nat_lt, List, [], ◌∷◌, ◌++◌, length, take, drop, refl, sym, ap, ◌∙◌, arith, Some, None, slice_get, length-append, append_assoc}
use Rattle.std.proofs.lemmas.Grind.{common_steps}
use Rattle.std.proofs.lemmas.Option.{same_Some}
use Rattle.std.specs.List.{concat}
use Rattle.std.specs.Str.{IsUtf8}
use Rattle.unicode_segmentation.specs.Grapheme.{graphemes, is_grapheme_break}
use Rattle.unicode_segmentation.specs.Segments.{with_offsets}
use Rattle.unicode_segmentation.proofs.SegmentsLemmas.{concat-segments}
use Rattle.tera_built_ins.specs.Truncate.{truncated}

-- what stands before the n-th piece is as long as its offset says
position-of : (from : ℕ) (ps : List (List ℕ)) (n at : ℕ) (p : List ℕ) → slice_get (with_offsets from ps) n ≡ Some (at, p) → (n < length ps) × (at ≡ from + length (concat (take n ps)))
unfolding with_offsets
position-of from [] zero at p h = cc
position-of from [] (suc n) at p h = cc
position-of from (q ∷ ps) zero at p h =
    let e : from ≡ at = ap (λ x. x.0) (same_Some (from, q) (at, p) h) in
    (omega arith, omega (arith, e))
position-of from (q ∷ ps) (suc n) at p h =
    let r = position-of (from + length q) ps n at p h in
    let l : length (q ++ concat (take n ps)) ≡ length q + length (concat (take n ps)) = length-append q (concat (take n ps)) in
    (omega (arith, r.0), omega (arith, r.1, l))

none-at : (from : ℕ) (ps : List (List ℕ)) (n : ℕ) → slice_get (with_offsets from ps) n ≡ None → length ps ≤ n
unfolding with_offsets
none-at from [] n h = omega arith
none-at from (q ∷ ps) zero h = cc
none-at from (q ∷ ps) (suc n) h = let l = none-at (from + length q) ps n h in omega (arith, l)

concat-parts : (n : ℕ) (ps : List (List ℕ)) → concat ps ≡ concat (take n ps) ++ concat (drop n ps)
concat-parts zero ps = refl
concat-parts (suc n) [] = refl
concat-parts (suc n) (q ∷ ps) = ap (λ r. q ++ r) (concat-parts n ps) ∙ sym (append_assoc q (concat (take n ps)) (concat (drop n ps)))

take-front : (t u : List ℕ) → take (length t) (t ++ u) ≡ t
take-front [] u = refl
take-front (c ∷ t) u = ap (λ r. c ∷ r) (take-front t u)

-- where there is a cluster n, the text is cut where that begins
pub cut-is : (t end : List ℕ) (n at : ℕ) (p : List ℕ) → IsUtf8 t → slice_get (with_offsets 0 (graphemes true t)) n ≡ Some (at, p) → truncated n end t ≡ take at t ++ end
cut-is t end n at p u h =
    let ps = graphemes true t in
    let r = position-of 0 ps n at p h in
    let near : at ≡ length (concat (take n ps)) = omega (arith, r.1) in
    let long : nat_lt n (length ps) ≡ true = grind (arith, common_steps, r.0) in
    let front = concat (take n ps) in
    let whole : t ≡ front ++ concat (drop n ps) = sym (concat-segments (is_grapheme_break true) t u) ∙ concat-parts n ps in
    let cut : take at t ≡ front = ap (λ m. take m t) near ∙ ap (take (length front)) whole ∙ take-front front (concat (drop n ps)) in
    rw long (ap (λ q. q ++ end) (sym cut))

-- where there is none, the text stays
pub keep-is : (t end : List ℕ) (n : ℕ) → slice_get (with_offsets 0 (graphemes true t)) n ≡ None → truncated n end t ≡ t
keep-is t end n h =
    let l = none-at 0 (graphemes true t) n h in
    let short : nat_lt n (length (graphemes true t)) ≡ false = grind (arith, common_steps, l) in
    rw short refl
