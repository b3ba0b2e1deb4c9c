-- What std's `find` and `split_once` by a text say of its pieces.
use Rattle.std.proofs.Common.{◌≡◌, ◌≢◌, ℕ, zero, suc, ◌<◌, false, List, [], ◌∷◌, ◌++◌, take, drop, refl, ap, ◌∙◌, Some, None, arith, append-nil}
use Rattle.std.specs.List.{onto_first}
use Rattle.std.specs.Str.Pattern.{FindsText, LacksTextAt, SplitsAroundMatch}
use Rattle.tera_built_ins.specs.Pieces.{begins, cut, pieces, joined}
use Rattle.tera_built_ins.specs.Replace.{replaced}
use Rattle.tera_built_ins.proofs.Trimming.{byte, begins-own, lacks}
use Rattle.tera_built_ins.proofs.Replacing.{past, cut-parted, joined-more}

-- characters before the first piece
abbrev before : List ℕ → List (List ℕ) → List (List ℕ)
before [] ts = ts
before (c ∷ t) ts = onto_first c (before t ts)

before-first : (t u : List ℕ) (us : List (List ℕ)) → before t (u ∷ us) ≡ (t ++ u) ∷ us
before-first [] u us = refl
before-first (c ∷ t) u us = ap (onto_first c) (before-first t u us)

no-match : (p : ℕ) (ps : List ℕ) (c : ℕ) (t : List ℕ) → begins byte (p ∷ ps) (c ∷ t) ≡ false → cut byte p ps 0 (c ∷ t) ≡ onto_first c (cut byte p ps 0 t)
no-match p ps c t h = rw h refl

up-to : (p : ℕ) (ps : List ℕ) (a : ℕ) (t : List ℕ) → ((i : ℕ) → i < a → LacksTextAt (p ∷ ps) t i) → cut byte p ps 0 t ≡ before (take a t) (cut byte p ps 0 (drop a t))
up-to p ps zero t h = refl
up-to p ps (suc a) [] h = refl
up-to p ps (suc a) (c ∷ t) h =
    no-match p ps c t (lacks p ps (c ∷ t) (h 0 (omega arith))) ∙ ap (onto_first c) (up-to p ps a t (λ i j. h (suc i) (omega (arith, j))))

at-match : (p : ℕ) (ps t : List ℕ) → cut byte p ps 0 ((p ∷ ps) ++ t) ≡ [] ∷ cut byte p ps 0 t
at-match p ps t = rw (begins-own (p ∷ ps) t) (rw (past p ps ps t) refl)

-- where the pattern is found, what stands before it is a piece, and the others are those of what follows
pieces-found : (p : ℕ) (ps s : List ℕ) (a b : ℕ) → FindsText (p ∷ ps) s (Some (a, b)) → pieces byte (p ∷ ps) s ≡ take a s ∷ pieces byte (p ∷ ps) (drop b s)
pieces-found p ps s a b f =
    up-to p ps a s f.0
    ∙ ap (before (take a s)) (ap (cut byte p ps 0) f.1.split ∙ at-match p ps (drop b s))
    ∙ before-first (take a s) [] (cut byte p ps 0 (drop b s))
    ∙ ap (λ t. t ∷ cut byte p ps 0 (drop b s)) (append-nil (take a s))

-- where it is not, the text is the one piece
pieces-none : (p : ℕ) (ps s : List ℕ) → FindsText (p ∷ ps) s None → pieces byte (p ∷ ps) s ≡ s ∷ []
pieces-none p ps [] f = refl
pieces-none p ps (c ∷ t) f =
    no-match p ps c t (lacks p ps (c ∷ t) (f 0 (omega arith))) ∙ ap (onto_first c) (pieces-none p ps t (λ i j. f (suc i) (omega (arith, j))))

-- what `split_once` by a pattern that is not empty says of the pieces
pub split-found : (pat s front back : List ℕ) → pat ≢ [] → SplitsAroundMatch (FindsText pat) s front back → pieces byte pat s ≡ front ∷ pieces byte pat back
split-found [] s front back h f = absurd (h refl)
split-found (p ∷ ps) s front back h (i, j, f, e, g, within, at, total) = rw (e, g) (pieces-found p ps s i j f)

pub split-none : (pat s : List ℕ) → pat ≢ [] → FindsText pat s None → pieces byte pat s ≡ s ∷ []
split-none [] s h f = absurd (h refl)
split-none (p ∷ ps) s h f = pieces-none p ps s f

-- what is made of the same two where each place of the pattern has another text
pub replaced-found : (pat to s front back : List ℕ) → pat ≢ [] → SplitsAroundMatch (FindsText pat) s front back → replaced byte pat to s ≡ front ++ (to ++ replaced byte pat to back)
replaced-found [] to s front back h f = absurd (h refl)
replaced-found (p ∷ ps) to s front back h f =
    ap (joined byte to) (split-found (p ∷ ps) s front back h f) ∙ joined-more to front (cut-parted p ps 0 back)

pub replaced-none : (pat to s : List ℕ) → pat ≢ [] → FindsText pat s None → replaced byte pat to s ≡ s
replaced-none pat to s h f = ap (joined byte to) (split-none pat s h f) ∙ append-nil s
