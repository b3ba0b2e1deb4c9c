-- Small facts on items.
use Rattle.std.proofs.Common.{◌≡◌, ℕ, zero, suc, ◌≤◌, List, [], ◌∷◌, length, drop, not, ◌==◌, true, refl, ap, arith}
use Rattle.std.proofs.lemmas.Bool.Decides.{nat_tests}
use Rattle.tera_value_types.specs.Val.{Val, Vals, vals, list_of, array, no_items, item}
use Rattle.tera_value_types.specs.Access.{truthy}
use Rattle.tera_value_types.specs.Order.{comparable_items}

pub list_vals : (xs : List Val) → list_of (vals xs) ≡ xs
list_vals [] = refl
list_vals (x ∷ xs) = ap (λ l. x ∷ l) (list_vals xs)

suc_not_zero : (n : ℕ) → not (suc n == 0) ≡ true
suc_not_zero n = grind (arith, nat_tests)

pub items_truthy : (xs : List Val) → not (length xs == 0) ≡ truthy (array (vals xs))
items_truthy [] = refl
items_truthy (x ∷ xs) = suc_not_zero (length xs)

pub past : (xs : List Val) (i : ℕ) → length xs ≤ i → drop i xs ≡ []
past [] zero h = refl
past [] (suc i) h = refl
past (x ∷ xs) zero h = absurd (omega (arith, h))
past (x ∷ xs) (suc i) h = past xs i (omega (arith, h))

pub with_none : (a : Vals) → comparable_items a no_items ≡ true
with_none no_items = refl
with_none (item v vs) = refl
