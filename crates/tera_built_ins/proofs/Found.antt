-- The places of a needle among the bytes of a text are those of a text in it.
use Rattle.std.proofs.Common.{◌≡◌, ◌≢◌, ℕ, ◌+◌, ◌<◌, ◌≤◌, List, [], ◌∷◌, length, get_or, take, drop, refl, sym, ap, ◌∙◌, subst, Some, None, arith, length-append, length-drop, length-take-le, drop-drop}
use Rattle.std.proofs.Math.Seq.{take-append_seam}
use Rattle.std.specs.Str.{IsUtf8, IsCharBoundary}
use Rattle.std.specs.Str.Pattern.{FindsText, LacksTextAt, HasTextAt, SplitsAroundMatch}
use Rattle.std.proofs.lemmas.Str.{IsCharBoundary-start, IsCharBoundary-from_take, IsCharBoundary-from_rest, IsUtf8-drop}
use Rattle.memchr.specs.Find.{OccursAt, FindsNeedle}
use Rattle.memchr.proofs.lemmas.MatchLemmas.{OccursAt-part, OccursAt-from_part, OccursAt-split}

lacks : (n s : List ℕ) (i : ℕ) → i ≤ length s → ¬ (OccursAt s n i) → LacksTextAt n s i
lacks n s i le absent rest e =
    let fits : i + length n ≤ length s = omega (arith, ap length e, length-append n rest, length-drop i s) in
    absent (OccursAt-from_part s n i fits (ap (take (length n)) e ∙ take-append_seam n rest))

module _ (n s : List ℕ) (u : IsUtf8 n) (v : IsUtf8 s) (some : 0 < length n) (at : ℕ) (here : OccursAt s n at) where
  -- a text begins where a character does
  pub begins-boundary : IsCharBoundary s at
  begins-boundary =
      let same : get_or s at 0 ≡ get_or n 0 0 = (let z : at + 0 ≡ at = omega arith in ap (λ (k : ℕ). get_or s k 0) (sym z)) ∙ here.reads 0 some in
      let first = (IsCharBoundary-start n u).1 some in
      (omega (arith, here.fits), λ below high. subst (λ (b : ℕ). 192 ≤ b) (sym same) (first (subst (λ (b : ℕ). 128 ≤ b) same high)))

  -- and ends where one does
  pub ends-boundary : IsCharBoundary (drop at s) (length n)
  ends-boundary =
      let rest : IsUtf8 (drop at s) = IsUtf8-drop s at v begins-boundary in
      IsCharBoundary-from_take (drop at s) (length n) rest (omega (arith, here.fits, length-drop at s)) (subst IsUtf8 (sym (OccursAt-part s n at here)) u)

  pub has-text : HasTextAt n s at (at + length n)
  has-text = record {
    split = OccursAt-split s n at here;
    ends = refl;
    after = IsCharBoundary-from_rest s at (length n) (omega (arith, here.fits)) ends-boundary;
  }

pub finds-none : (n s : List ℕ) → FindsNeedle s n 0 None → FindsText n s None
finds-none n s h = λ i le. lacks n s i le (h i (omega arith) (omega arith))

pub splits-around : (n s front rest back : List ℕ) (at : ℕ) → IsUtf8 n → IsUtf8 s → 0 < length n → FindsNeedle s n 0 (Some at) → front ≡ take at s → rest ≡ drop at s → back ≡ drop (length n) rest → SplitsAroundMatch (FindsText n) s front back
splits-around n s front rest back at u v some h e f g =
    let here : OccursAt s n at = h.1 in
    let fits : at + length n ≤ length s = here.fits in
    let behind : back ≡ drop (at + length n) s = g ∙ ap (drop (length n)) f ∙ drop-drop (length n) at s in
    let nowhere : (i : ℕ) → i < at → LacksTextAt n s i = λ i l. lacks n s i (omega arith) (h.0.before i (omega arith) l) in
    (at, at + length n, (nowhere, has-text n s u v some at here), e, behind, omega arith, ap length e ∙ length-take-le at s (omega arith), omega (arith, ap length behind, length-drop (at + length n) s))

-- a pattern that is not empty leaves less
pub shorter : (n s front back : List ℕ) → n ≢ [] → SplitsAroundMatch (FindsText n) s front back → length back < length s
shorter [] s front back h f = absurd (h refl)
shorter (p ∷ ps) s front back h (i, j, f, e, g, within, at, total) =
    let ends : j ≡ i + length (p ∷ ps) = f.1.ends in
    omega (arith, ends, total)

pub not-empty : (n : List ℕ) → n ≢ [] → 0 < length n
not-empty [] h = absurd (h refl)
not-empty (p ∷ ps) h = omega arith
