-- Powers at great exponents.
use Rattle.std.proofs.Common.{◌≡◌, ℕ, zero, suc, ◌^◌, ◌%◌, ◌==◌, ◌≤◌, ℤ, pos, negsuc, neg_ℤ, unsigned_abs, ◌≤ℤ◌, Bool, true, false, cond, nat_lt, Ok, Err, refl, ap, ◌∙◌, arith}
use Rattle.std.proofs.lemmas.Bool.Decides.{nat_tests}
use native.Mathlib.Numerals.{unary_clauses}
use Rattle.std.proofs.lemmas.Int.{ints}
use Rattle.std.proofs.Math.Nat.{pow-le-pow_left}
use Rattle.std.proofs.Math.Pow.{pow_mono}
use Rattle.tera_errors.specs.Fault.{message}
use Rattle.tera_value_types.specs.Val.{int}
use Rattle.tera_values.specs.Number.{within, power}

not_below : (a b : ℕ) → b ≤ a → nat_lt a b ≡ false
not_below a b h = grind (arith, nat_tests)

too_great : (k : ℕ) → 2 ^ 128 ≤ k → within (pos k) ≡ Err message
too_great k h = ap (λ (b : Bool). cond b (Ok (int (pos k))) (Err message)) (not_below k (2 ^ 127) (omega (arith, h)))

too_small : (k : ℕ) → 2 ^ 128 ≤ k → within (neg_ℤ (pos k)) ≡ Err message
too_small zero h = absurd (omega (arith, h))
too_small (suc j) h = ap (λ (b : Bool). cond b (Ok (int (negsuc j))) (Err message)) (not_below j (2 ^ 127) (omega (arith, h)))

great : (m n : ℕ) → 2 ≤ m → 128 ≤ n → 2 ^ 128 ≤ m ^ n
great m n h g = omega (arith, pow-le-pow_left h n, pow_mono g)

either_way : (b : Bool) (k : ℕ) → 2 ^ 128 ≤ k → within (cond b (pos k) (neg_ℤ (pos k))) ≡ Err message
either_way true k h = too_great k h
either_way false k h = too_small k h

pub far : (a b : ℤ) → pos 128 ≤ℤ b → (a ≡ pos 0 → ⊥) → (a ≡ pos 1 → ⊥) → (a ≡ negsuc 0 → ⊥) → power a b ≡ Err message
far a (negsuc n) h x y z = refl
far (pos zero) (pos n) h x y z = absurd (x refl)
far (pos (suc zero)) (pos n) h x y z = absurd (y refl)
far (pos (suc (suc m))) (pos n) h x y z = too_great (suc (suc m) ^ n) (great (suc (suc m)) n (omega arith) (omega (arith, ints, h)))
far (negsuc zero) (pos n) h x y z = absurd (z refl)
far (negsuc (suc m)) (pos n) h x y z = either_way (n % 2 == 0) (suc (suc m) ^ n) (great (suc (suc m)) n (omega arith) (omega (arith, ints, h)))

zeros : (n : ℕ) → 1 ≤ n → 0 ^ n ≡ 0
zeros (suc n) h = simp unary_clauses (omega arith)
zeros zero h = absurd (omega (arith, h))

ones : (n : ℕ) → 1 ^ n ≡ 1
ones zero = refl
ones (suc n) = simp unary_clauses (omega (arith, ones n))

pub of_zero : (b : ℤ) → pos 128 ≤ℤ b → power (pos 0) b ≡ Ok (int (pos 0))
of_zero (pos n) h = ap (λ (k : ℕ). within (pos k)) (zeros n (omega (arith, ints, h)))
of_zero (negsuc n) h = absurd (omega (arith, ints, h))

pub of_one : (b : ℤ) → pos 128 ≤ℤ b → power (pos 1) b ≡ Ok (int (pos 1))
of_one (pos n) h = ap (λ (k : ℕ). within (pos k)) (ones n)
of_one (negsuc n) h = absurd (omega (arith, ints, h))

even_test : (k : ℕ) → k ≡ 0 → (k == 0) ≡ true
even_test k h = grind (arith, nat_tests)

odd_test : (k : ℕ) → (k ≡ 0 → ⊥) → (k == 0) ≡ false
odd_test k h = grind (arith, nat_tests)

pub of_minus_one_even : (b : ℤ) → pos 128 ≤ℤ b → unsigned_abs b % 2 ≡ 0 → power (negsuc 0) b ≡ Ok (int (pos 1))
of_minus_one_even (pos n) h e = ap (λ (t : Bool). within (cond t (pos (1 ^ n)) (neg_ℤ (pos (1 ^ n))))) (even_test (n % 2) e) ∙ ap (λ (k : ℕ). within (pos k)) (ones n)
of_minus_one_even (negsuc n) h e = absurd (omega (arith, ints, h))

pub of_minus_one_odd : (b : ℤ) → pos 128 ≤ℤ b → (unsigned_abs b % 2 ≡ 0 → ⊥) → power (negsuc 0) b ≡ Ok (int (negsuc 0))
of_minus_one_odd (pos n) h o = ap (λ (t : Bool). within (cond t (pos (1 ^ n)) (neg_ℤ (pos (1 ^ n))))) (odd_test (n % 2) o) ∙ ap (λ (k : ℕ). within (neg_ℤ (pos k))) (ones n)
of_minus_one_odd (negsuc n) h o = absurd (omega (arith, ints, h))
