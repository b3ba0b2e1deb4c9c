-- Euclid's division, by the signs of the two numbers.
use Rattle.std.proofs.Common.{Bool, true, false, cond, Result, Ok, Err, subst, ◌≡◌, ℕ, zero, suc, ◌+◌, ◌-◌, ◌*◌, ◌/◌, ◌%◌, ◌<◌, ℤ, pos, negsuc, neg_ℤ, ◌+ℤ◌, ◌*ℤ◌, ◌≢◌, unsigned_abs, refl, ap, arith}
use Rattle.std.specs.Ordering.{int_eq}
use Rattle.std.specs.Int.{int_div_euclid, int_rem_euclid}
use borrow.Author.Differences.{up, down, same_in, below_in, at_most_in, sum_is_lem, product_is}
use Rattle.tera_errors.specs.Fault.{Fault, message}
use Rattle.tera_value_types.specs.Val.{Val, int}
use Rattle.tera_values.specs.Number.{in_range, floor_div, rem}
use Rattle.tera_values.specs.Division.{IsDivision}

-- by what the parts of the numbers are
parted : (a b q r : ℤ) → up a + (up b * down q + down b * up q) + down r ≡ down a + (up b * up q + down b * down q) + up r → down r ≡ 0 → up r < unsigned_abs b → IsDivision a b q r
parted a b q r whole sign less = record {
  whole = same_in a ((b *ℤ q) +ℤ r) (omega (arith, sum_is_lem (b *ℤ q) r, product_is b q));
  left_over = at_most_in (pos 0) r (omega arith);
  less = below_in r (pos (unsigned_abs b)) (omega arith);
}

-- a number that is not negative, by a negative one
opposite : (a k n r : ℕ) → a ≡ suc k * n + r → r < suc k → IsDivision (pos a) (negsuc k) (neg_ℤ (pos n)) (pos r)
opposite a k zero r e l = parted (pos a) (negsuc k) (pos zero) (pos r) (omega (arith, e)) refl (omega (arith, l))
opposite a k (suc n) r e l = parted (pos a) (negsuc k) (negsuc n) (pos r) (omega (arith, e)) refl (omega (arith, l))

pub divided : (a b : ℤ) → b ≢ pos 0 → IsDivision a b (int_div_euclid a b) (int_rem_euclid a b)
divided (pos a) (pos zero) h = absurd (h refl)
divided (negsuc a) (pos zero) h = absurd (h refl)
divided (pos a) (pos (suc k)) h = parted (pos a) (pos (suc k)) (pos (a / suc k)) (pos (a % suc k)) (omega arith) refl (omega arith)
divided (negsuc a) (pos (suc k)) h = parted (negsuc a) (pos (suc k)) (negsuc (a / suc k)) (pos (suc k - 1 - a % suc k)) (omega arith) refl (omega arith)
divided (pos a) (negsuc k) h = opposite a k (a / suc k) (a % suc k) (omega arith) (omega arith)
divided (negsuc a) (negsuc k) h = parted (negsuc a) (negsuc k) (pos (suc (a / suc k))) (pos (suc k - 1 - a % suc k)) (omega arith) refl (omega arith)

-- the integer of an answer, or another where there is none
abbrev int_or : ℤ → Result Val Fault → ℤ
int_or z (Ok (int w)) = w
int_or z a = z

told : (t s : Bool) (z w : ℤ) → ◌≡◌ {A = Result Val Fault} (cond t (Err message) (cond s (Ok (int z)) (Err message))) (Ok (int w)) → z ≡ w
told true s z w e = ap (int_or z) e
told false true z w e = ap (int_or z) e
told false false z w e = ap (int_or z) e

abbrev answers : Result Val Fault → ℕ
answers (Ok v) = 1
answers (Err f) = 0

by_zero : (a b q : ℤ) → floor_div (int a) (int b) ≡ Ok (int q) → b ≢ pos 0
by_zero a b q e h =
    let at_zero : floor_div (int a) (int (pos 0)) ≡ Ok (int q) = subst (λ (z : ℤ). floor_div (int a) (int z) ≡ Ok (int q)) h e in
    let wrong : 0 ≡ 1 = ap answers at_zero in
    omega (arith, wrong)

pub values_divided : (a b q r : ℤ) → floor_div (int a) (int b) ≡ Ok (int q) → rem (int a) (int b) ≡ Ok (int r) → IsDivision a b q r
values_divided a b q r e f =
    let is_q : int_div_euclid a b ≡ q = told (int_eq b (pos 0)) (in_range (int_div_euclid a b)) (int_div_euclid a b) q e in
    let is_r : int_rem_euclid a b ≡ r = told (int_eq b (pos 0)) (in_range (int_rem_euclid a b)) (int_rem_euclid a b) r f in
    subst (IsDivision a b q) is_r (subst (λ (z : ℤ). IsDivision a b z (int_rem_euclid a b)) is_q (divided a b (by_zero a b q e)))
