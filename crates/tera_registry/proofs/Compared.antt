-- A name compared with one in two pieces.
use Rattle.std.proofs.Common.{◌≡◌, ◌<◌, ◌≤◌, [], ◌∷◌, ◌++◌, length, take, drop, refl, sym, ap, ◌∙◌, arith, Ordering, Less, Equal, Greater}
use Rattle.std.specs.Ordering.{nat_cmp, ordering_then}
use Rattle.tera_errors.specs.Site.{Name}
use Rattle.tera_values.specs.Named.{name_cmp}

then_then : (o p q : Ordering) → ordering_then (ordering_then o p) q ≡ ordering_then o (ordering_then p q)
then_then Less p q = refl
then_then Equal p q = refl
then_then Greater p q = refl

-- a name that is shorter than the first piece
pub cmp-short : (a f b : Name) → length a < length f → name_cmp a (f ++ b) ≡ name_cmp a f
cmp-short a [] b lt = absurd (omega arith)
cmp-short [] (y ∷ f) b lt = refl
cmp-short (x ∷ a) (y ∷ f) b lt = ap (ordering_then (nat_cmp x y)) (cmp-short a f b (omega arith))

pub cmp-long : (a f b : Name) → length f ≤ length a → name_cmp a (f ++ b) ≡ ordering_then (name_cmp (take (length f) a) f) (name_cmp (drop (length f) a) b)
cmp-long a [] b le = refl
cmp-long [] (y ∷ f) b le = absurd (omega arith)
cmp-long (x ∷ a) (y ∷ f) b le =
    ap (ordering_then (nat_cmp x y)) (cmp-long a f b (omega arith)) ∙ sym (then_then (nat_cmp x y) _ _)

pub then-equal : (o p : Ordering) → o ≡ Equal → ordering_then o p ≡ p
then-equal Less p e = cc
then-equal Equal p e = refl
then-equal Greater p e = cc

pub then-other : (o p : Ordering) → (o ≡ Equal → ⊥) → ordering_then o p ≡ o
then-other Less p e = refl
then-other Equal p e = absurd (e refl)
then-other Greater p e = refl
