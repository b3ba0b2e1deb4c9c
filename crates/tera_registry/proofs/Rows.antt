-- Lists that grow at their end, and what is left of them from a position on.
use Rattle.std.proofs.Common.{◌≡◌, ℕ, zero, suc, ◌+◌, List, [], ◌∷◌, ◌++◌, length, take, drop, Some, None, refl, ap, ◌∙◌, ◌⊎◌, inl, inr, arith, slice_get}
use Rattle.std.proofs.lemmas.List.{length-append}

pub get-push : {X : Type 0} (xs : List X) (x y : X) (j : ℕ) → slice_get (xs ++ x ∷ []) j ≡ Some y → (slice_get xs j ≡ Some y) ⊎ ((j ≡ length xs) × (y ≡ x))
get-push [] x y zero e = (let q : Some x ≡ Some y = e in let s : y ≡ x = cc in inr (refl, s))
get-push [] x y (suc j) e = (let q : None ≡ Some y = e in cc)
get-push (z ∷ xs) x y zero e = inl e
get-push (z ∷ xs) x y (suc j) e =
    elim (get-push xs x y j e) [
      | inl before ↦ inl before
      | inr last ↦ inr (ap suc last.0, last.1)
    ]

pub length-push : {X : Type 0} (xs : List X) (x : X) → length (xs ++ x ∷ []) ≡ length xs + 1
length-push xs x = length-append xs (x ∷ [])

pub drop-at : {X : Type 0} (xs : List X) (i : ℕ) (x : X) → slice_get xs i ≡ Some x → drop i xs ≡ x ∷ drop (i + 1) xs
drop-at [] i x is = (let q : None ≡ Some x = is in cc)
drop-at (y ∷ xs) zero x is = (let q : Some y ≡ Some x = is in ap (λ z. z ∷ xs) cc)
drop-at (y ∷ xs) (suc i) x is =
    (let e : suc (i + 1) ≡ suc i + 1 = omega arith in drop-at xs i x is ∙ ap (λ k. x ∷ drop k (y ∷ xs)) e)

pub take-more : {X : Type 0} (xs : List X) (i : ℕ) (x : X) → slice_get xs i ≡ Some x → take i xs ++ x ∷ [] ≡ take (i + 1) xs
take-more [] i x is = (let q : None ≡ Some x = is in cc)
take-more (y ∷ xs) zero x is = (let q : Some y ≡ Some x = is in ap (λ z. z ∷ []) cc)
take-more (y ∷ xs) (suc i) x is =
    (let e : suc (i + 1) ≡ suc i + 1 = omega arith in ap (λ l. y ∷ l) (take-more xs i x is) ∙ ap (λ k. take k (y ∷ xs)) e)
