-- Where texts begin in one piece.
use Rattle.std.proofs.Common.{◌≡◌, ℕ, ◌≤◌, List, [], ◌∷◌, ◌++◌, take, drop, length, sym, ap, ◌∙◌, subst, arith, Result, Ok, Err, OnOk, OnErr}
use Rattle.std.specs.Str.{IsUtf8, IsCharBoundary}
use Rattle.std.specs.String.Boundary.{IsSplitPoint}
use Rattle.std.proofs.lemmas.List.{take-append-le, drop-append-le, take-append-drop, length-append}
use Rattle.std.proofs.Math.Seq.{take-append_seam, drop-append_seam}
use Rattle.std.proofs.lemmas.Str.{IsUtf8-append, IsCharBoundary-start, IsCharBoundary-from_drop, IsCharBoundary-from_take, IsUtf8-drop}
use Rattle.tera_machine.specs.Layers.{Layers, below_at, layers_at, joined, AreStarts}

pub starts_within : (s : ℕ) (os all : List ℕ) → AreStarts s os all → s ≤ length all
starts_within s [] all h = omega (arith, h)
starts_within s (o ∷ os) all h = h.0

-- what is put behind goes to the innermost text
pub layers-append : (s : ℕ) (os all t : List ℕ) → AreStarts s os all → layers_at s os (all ++ t) ≡ record { now = drop s all ++ t; below = below_at s os all }
layers-append s [] all t h = ap (λ (l : List ℕ). record { now = l; below = [] }) (drop-append-le s all t (starts_within s [] all h))
layers-append s (o ∷ os) all t h =
    ap (λ (l : List ℕ). record { now = l; below = drop o (take s (all ++ t)) ∷ below_at o os (take s (all ++ t)) }) (drop-append-le s all t h.0)
    ∙ ap (λ (l : List ℕ). record { now = drop s all ++ t; below = drop o l ∷ below_at o os l }) (take-append-le s all t h.0)

pub starts-append : (s : ℕ) (os all t : List ℕ) → AreStarts s os all → IsUtf8 t → AreStarts s os (all ++ t)
starts-append s [] all t h u = h
starts-append s (o ∷ os) all t h u = (
  omega (arith, h.0, length-append all t),
  subst IsUtf8 (sym (drop-append-le s all t h.0)) (IsUtf8-append (drop s all) t h.1 u),
  subst (AreStarts o os) (sym (take-append-le s all t h.0)) h.2,
)

-- the innermost text may begin and end there
pub start_is_boundary : (s : ℕ) (os all : List ℕ) → IsUtf8 all → AreStarts s os all → IsCharBoundary all s
start_is_boundary s [] all u h = subst (IsCharBoundary all) (sym h) (IsCharBoundary-start all u)
start_is_boundary s (o ∷ os) all u h = IsCharBoundary-from_drop all s h.0 h.1

pub start_is_split : (s : ℕ) (os all : List ℕ) → IsUtf8 all → AreStarts s os all → IsSplitPoint all s
start_is_split s os all u h =
    let b = start_is_boundary s os all u h in
    (b.0, λ _. b.1)

-- the innermost text stays behind the one around it
pub starts-joined : (s o : ℕ) (os all : List ℕ) → AreStarts s (o ∷ os) all → AreStarts o os all
starts-joined s o os all h = subst (AreStarts o os) (take-append-drop s all) (starts-append o os (take s all) (drop s all) h.2 h.1)

pub layers-joined : (s o : ℕ) (os all : List ℕ) → AreStarts s (o ∷ os) all → layers_at o os all ≡ joined (layers_at s (o ∷ os) all)
layers-joined s o os all h = ap (layers_at o os) (sym (take-append-drop s all)) ∙ layers-append o os (take s all) (drop s all) h.2

-- with no text around it, the innermost one is all
pub layers-all : (s : ℕ) (os all : List ℕ) → AreStarts s os all → below_at s os all ≡ [] → drop s all ≡ all
layers-all s [] all h e = ap (λ n. drop n all) h
layers-all s (o ∷ os) all h e = cc

-- what stands behind a text in a text is one itself
pub behind_is_utf8 : (all t : List ℕ) → IsUtf8 all → IsUtf8 (all ++ t) → IsUtf8 t
behind_is_utf8 all t u v =
    let within : length all ≤ length (all ++ t) = omega (arith, length-append all t) in
    let cut = IsCharBoundary-from_take (all ++ t) (length all) v within (subst IsUtf8 (sym (take-append_seam all t)) u) in
    subst IsUtf8 (drop-append_seam all t) (IsUtf8-drop (all ++ t) (length all) v cut)

module _ {E : Type 0} where
  -- what a call writes behind the text goes to the innermost one
  pub starts-written : (r : Result (Unit {0}) E) (s : ℕ) (os all new t : List ℕ) → AreStarts s os all → IsUtf8 all → IsUtf8 new → OnOk r (new ≡ all ++ t) → OnErr r (new ≡ all) → AreStarts s os new
  starts-written (Ok u) s os all new t h a n ok err = subst (AreStarts s os) (sym ok) (starts-append s os all t h (behind_is_utf8 all t a (subst IsUtf8 ok n)))
  starts-written (Err e) s os all new t h a n ok err = subst (AreStarts s os) (sym err) h

  pub layers-written : (r : Result (Unit {0}) E) (s : ℕ) (os all new t : List ℕ) (l : Layers) → AreStarts s os all → layers_at s os all ≡ l → OnOk r (new ≡ all ++ t) → OnOk r (layers_at s os new ≡ record { now = l.now ++ t; below = l.below })
  layers-written (Ok u) s os all new t l h is ok = ap (layers_at s os) ok ∙ layers-append s os all t h ∙ ap (λ (m : Layers). record { now = m.now ++ t; below = m.below }) is
  layers-written (Err e) s os all new t l h is ok = tt
