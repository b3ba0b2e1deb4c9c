-- What is reckoned with is numbers, in which a claim on texts holds.
use Rattle.std.proofs.Common.{◌+ℤ◌, ◌-ℤ◌, ◌*ℤ◌, neg_ℤ, ℤ, pos, negsuc, Bool, true, false, cond, Option, Some, None, Result, Ok, Err}
use Rattle.std.specs.Ordering.{int_eq}
use Rattle.std.specs.Int.{int_div_euclid, int_rem_euclid, int_pow}
use Rattle.tera_errors.specs.Fault.{Fault, message}
use Rattle.tera_values.specs.Val.{Val, int}
use Rattle.tera_values.specs.Number.{in_range, within, integers, on_integers, unless_zero, sum, difference, product, quotient, remainder, exact_quotient, power, add, sub, mul, div, floor_div, rem, pow, negate}
use Rattle.tera_meaning.proofs.Marks.Claim.{Claim, AnswerHolds}

-- whatever the two values are
abbrev pub AlwaysHolds : Claim → (Val → Val → Result Val Fault) → Type 0
AlwaysHolds K f = (v w : Val) → AnswerHolds K (f v w)

module _ (K : Claim) where
  one_of : (b : Bool) (x y : Result Val Fault) → AnswerHolds K x → AnswerHolds K y → AnswerHolds K (cond b x y)
  one_of true x y h k = h
  one_of false x y h k = k

  within-holds : (z : ℤ) → AnswerHolds K (within z)
  within-holds z = one_of (in_range z) (Ok (int z)) (Err message) tt tt

  unless_zero-holds : (z : ℤ) (x : Result Val Fault) → AnswerHolds K x → AnswerHolds K (unless_zero z x)
  unless_zero-holds z x h = one_of (int_eq z (pos 0)) (Err message) x tt h

  exact-holds : (a b : ℤ) → AnswerHolds K (exact_quotient a b)
  exact-holds a b =
      let z = int_div_euclid a b in
      unless_zero-holds b (cond (int_eq (int_rem_euclid a b) (pos 0)) (within z) (Err message)) (one_of (int_eq (int_rem_euclid a b) (pos 0)) (within z) (Err message) (within-holds z) tt)

  power-holds : (a b : ℤ) → AnswerHolds K (power a b)
  power-holds a (pos n) = within-holds (int_pow a n)
  power-holds a (negsuc n) = tt

  on-holds : (f : ℤ → ℤ → Result Val Fault) → ((a b : ℤ) → AnswerHolds K (f a b)) → (o : Option (ℤ × ℤ)) → AnswerHolds K (on_integers f o)
  on-holds f h None = tt
  on-holds f h (Some p) = h p.0 p.1

  pub negate-holds : (v : Val) → AnswerHolds K (negate v)
  negate-holds (int z) = within-holds (neg_ℤ z)
  negate-holds v = tt

  pub add-holds : AlwaysHolds K add
  add-holds v w = on-holds sum (λ a b. within-holds (a +ℤ b)) (integers v w)

  pub sub-holds : AlwaysHolds K sub
  sub-holds v w = on-holds difference (λ a b. within-holds (a -ℤ b)) (integers v w)

  pub mul-holds : AlwaysHolds K mul
  mul-holds v w = on-holds product (λ a b. within-holds (a *ℤ b)) (integers v w)

  pub div-holds : AlwaysHolds K div
  div-holds v w = on-holds exact_quotient exact-holds (integers v w)

  pub floor_div-holds : AlwaysHolds K floor_div
  floor_div-holds v w = on-holds quotient (λ a b. unless_zero-holds b (within (int_div_euclid a b)) (within-holds (int_div_euclid a b))) (integers v w)

  pub rem-holds : AlwaysHolds K rem
  rem-holds v w = on-holds remainder (λ a b. unless_zero-holds b (within (int_rem_euclid a b)) (within-holds (int_rem_euclid a b))) (integers v w)

  pub pow-holds : AlwaysHolds K pow
  pow-holds v w = on-holds power power-holds (integers v w)
