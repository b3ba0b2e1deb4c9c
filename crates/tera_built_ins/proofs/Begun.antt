-- Words, counted where each begins.
use Rattle.std.proofs.Common.{◌≡◌, ℕ, ◌+◌, ◌<◌, Bool, true, false, cond, List, [], ◌∷◌, length, get_or, drop, refl, sym, ap, ◌∙◌, arith}
use Rattle.std.specs.List.{count_by, slice_split, onto_first}
use Rattle.std.specs.Char.{is_whitespace}
use Rattle.std.proofs.lemmas.List.{at_drop_more}
use Rattle.std.proofs.lemmas.List.Sums.{sum_by-cons}
use Rattle.tera_built_ins.specs.Words.{has_some}

-- how many words begin in these characters, where the one before them may be part of one
abbrev pub begun : Bool → List ℕ → ℕ
begun inside [] = 0
begun inside (c ∷ cs) = cond (is_whitespace c) (begun false cs) (cond inside 0 1 + begun true cs)

abbrev after_first : List (List ℕ) → ℕ
after_first [] = 0
after_first (t ∷ ts) = count_by has_some ts

some-first : (t : List ℕ) (ts : List (List ℕ)) → count_by has_some (t ∷ ts) ≡ cond (has_some t) 1 0 + count_by has_some ts
some-first t ts = sum_by-cons (λ (x : List ℕ). cond (has_some x) 1 0) t ts

onto-first : (c : ℕ) (ts : List (List ℕ)) → (after_first (onto_first c ts) ≡ after_first ts) × (count_by has_some (onto_first c ts) ≡ 1 + after_first ts)
onto-first c [] = (refl, refl)
onto-first c (t ∷ ts) = (refl, some-first (c ∷ t) ts)

-- where a word goes on, its piece is the first, and no more begins there
abbrev BegunBoth : List ℕ → Type 0
BegunBoth cs = (begun true cs ≡ after_first (slice_split is_whitespace cs)) × (begun false cs ≡ count_by has_some (slice_split is_whitespace cs))

begun-step : (white : Bool) (c : ℕ) (cs : List ℕ) → is_whitespace c ≡ white → BegunBoth cs → BegunBoth (c ∷ cs)
begun-step true c cs e rest = rw e (rest.1, rest.1)
begun-step false c cs e rest =
    let one = onto-first c (slice_split is_whitespace cs) in
    rw e (omega (arith, rest.0, one.0), omega (arith, rest.0, one.1))

begun-both : (cs : List ℕ) → BegunBoth cs
begun-both [] = (refl, refl)
begun-both (c ∷ cs) = begun-step (is_whitespace c) c cs refl (begun-both cs)

pub begun-is : (cs : List ℕ) → count_by has_some (slice_split is_whitespace cs) ≡ begun false cs
begun-is cs = sym (begun-both cs).1

pub begun-drop : (inside : Bool) (cs : List ℕ) (n c : ℕ) → (n < length cs) × (c ≡ get_or cs n c) → begun inside (drop n cs) ≡ cond (is_whitespace c) (begun false (drop (n + 1) cs)) (cond inside 0 1 + begun true (drop (n + 1) cs))
begun-drop inside cs n c h = at_drop_more (begun inside) cs n c h.0 ∙ ap (λ (x : ℕ). cond (is_whitespace x) (begun false (drop (n + 1) cs)) (cond inside 0 1 + begun true (drop (n + 1) cs))) (sym h.1)
