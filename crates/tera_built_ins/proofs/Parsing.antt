-- What std reads as an integer is what a numeral means.
use Rattle.std.proofs.Common.{◌≡◌, ℕ, Bool, true, false, cond, List, [], ◌∷◌, refl, arith, ℤ, pos, negsuc, Ok, Err, FitsSigned}
use Rattle.std.proofs.lemmas.Grind.{common_steps}
use Rattle.std.proofs.lemmas.Int.{ints}
use Rattle.std.specs.Char.{is_digit}
use Rattle.std.specs.List.{list_all}
use Rattle.std.specs.Str.Parse.{AllDigits, IsNumeral, without_leading_sign, signed_digits_value}
use Rattle.std.specs.Prelude.{Result}
use Rattle.tera_errors.specs.Fault.{Fault, message}
use Rattle.tera_values.specs.Val.{Val, int}
use Rattle.tera_values.specs.Number.{in_range}
use Rattle.tera_built_ins.specs.Parse.{is_numeral, signed_numeral}
use mir.Syntax.{w128}

digits-tested : (base : ℕ) (ds : List ℕ) → AllDigits base ds → list_all (λ d. is_digit d base) ds ≡ true
digits-tested base [] h = refl
digits-tested base (d ∷ ds) h = let rest : list_all (λ e. is_digit e base) ds ≡ true = digits-tested base ds h.1 in grind (arith, common_steps)

digits-told : (base : ℕ) (ds : List ℕ) → list_all (λ d. is_digit d base) ds ≡ true → AllDigits base ds
digits-told base [] h = tt
digits-told base (d ∷ ds) h = (grind (arith, common_steps), digits-told base ds (grind (arith, common_steps)))

numeral-tested : (base : ℕ) (ds : List ℕ) → IsNumeral base ds → is_numeral base ds ≡ true
numeral-tested base ds h = let all : list_all (λ d. is_digit d base) ds ≡ true = digits-tested base ds h.1 in grind (arith, common_steps)

numeral-told : (base : ℕ) (ds : List ℕ) → is_numeral base ds ≡ true → IsNumeral base ds
numeral-told base ds h = (grind (arith, common_steps), digits-told base ds (grind (arith, common_steps)))

range-tested : (z : ℤ) → FitsSigned w128 z → in_range z ≡ true
range-tested (pos n) h = grind (arith, ints, common_steps)
range-tested (negsuc n) h = grind (arith, ints, common_steps)

range-told : (z : ℤ) → in_range z ≡ true → FitsSigned w128 z
range-told (pos n) h = grind (arith, ints, common_steps)
range-told (negsuc n) h = grind (arith, ints, common_steps)

-- a numeral that has room
pub signed_numeral-read : (base : ℕ) (t : List ℕ) → IsNumeral base (without_leading_sign t) → FitsSigned w128 (signed_digits_value base t)
    → signed_numeral {C = ℕ} base t ≡ Ok (int (signed_digits_value base t))
signed_numeral-read base t numeral fits = rw (numeral-tested base (without_leading_sign t) numeral, range-tested (signed_digits_value base t) fits) refl

-- and what is none, or has no room
pub signed_numeral-refused : (base : ℕ) (t : List ℕ) → (IsNumeral base (without_leading_sign t) × FitsSigned w128 (signed_digits_value base t) → ⊥)
    → signed_numeral {C = ℕ} base t ≡ Err message
signed_numeral-refused base t h = go (is_numeral base (without_leading_sign t)) (in_range (signed_digits_value base t)) (numeral-told base (without_leading_sign t)) (range-told (signed_digits_value base t))
  where
    go : (b c : Bool) → (b ≡ true → IsNumeral base (without_leading_sign t)) → (c ≡ true → FitsSigned w128 (signed_digits_value base t))
        → ◌≡◌ {A = Result Val Fault} (cond b (cond c (Ok (int (signed_digits_value base t))) (Err message)) (Err message)) (Err message)
    go true true n f = absurd (h (n refl, f refl))
    go true false n f = refl
    go false c n f = refl
