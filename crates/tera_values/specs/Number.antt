-- Arithmetic of integers from -2^127 to below 2^127.
use Rattle.std.specs.Prelude.{ℤ, pos, negsuc, ◌+ℤ◌, ◌-ℤ◌, ◌*ℤ◌, neg_ℤ, ◌^◌, Bool, cond, nat_lt, Option, Some, None, Result, Ok, Err}
use Rattle.std.specs.Ordering.{int_eq}
use Rattle.std.specs.Int.{int_div_euclid, int_rem_euclid, int_pow}
use Rattle.tera_errors.specs.Fault.{Fault, message}
use Rattle.tera_value_types.specs.Val.{Val, int}

abbrev pub in_range : ℤ → Bool
in_range (pos n) = nat_lt n (2 ^ 127)
in_range (negsuc n) = nat_lt n (2 ^ 127)

-- the number, or a fault where it is out of range
abbrev pub within : ℤ → Result Val Fault
within z = cond (in_range z) (Ok (int z)) (Err message)

-- a number that is there
abbrev pub told : Option ℤ → Result Val Fault
told None = Err message
told (Some z) = Ok (int z)

abbrev pub integers : Val → Val → Option (ℤ × ℤ)
integers (int a) (int b) = Some (a, b)
integers v w = None

-- nothing but integers is reckoned with
abbrev pub on_integers : (ℤ → ℤ → Result Val Fault) → Option (ℤ × ℤ) → Result Val Fault
on_integers f None = Err message
on_integers f (Some p) = f p.0 p.1

abbrev pub unless_zero : ℤ → Result Val Fault → Result Val Fault
unless_zero z answer = cond (int_eq z (pos 0)) (Err message) answer

abbrev pub sum : ℤ → ℤ → Result Val Fault
sum a b = within (a +ℤ b)

abbrev pub difference : ℤ → ℤ → Result Val Fault
difference a b = within (a -ℤ b)

abbrev pub product : ℤ → ℤ → Result Val Fault
product a b = within (a *ℤ b)

-- Euclid's quotient and remainder: the remainder is never negative
abbrev pub quotient : ℤ → ℤ → Result Val Fault
quotient a b = unless_zero b (within (int_div_euclid a b))

abbrev pub remainder : ℤ → ℤ → Result Val Fault
remainder a b = unless_zero b (within (int_rem_euclid a b))

-- the exact quotient, or a fault where it is not whole
abbrev pub exact_quotient : ℤ → ℤ → Result Val Fault
exact_quotient a b =
    unless_zero b
    (cond (int_eq (int_rem_euclid a b) (pos 0)) (within (int_div_euclid a b)) (Err message))

abbrev pub power : ℤ → ℤ → Result Val Fault
power a (pos n) = within (int_pow a n)
power a (negsuc n) = Err message

abbrev pub add : Val → Val → Result Val Fault
add v w = on_integers sum (integers v w)

abbrev pub sub : Val → Val → Result Val Fault
sub v w = on_integers difference (integers v w)

abbrev pub mul : Val → Val → Result Val Fault
mul v w = on_integers product (integers v w)

abbrev pub div : Val → Val → Result Val Fault
div v w = on_integers exact_quotient (integers v w)

abbrev pub floor_div : Val → Val → Result Val Fault
floor_div v w = on_integers quotient (integers v w)

abbrev pub rem : Val → Val → Result Val Fault
rem v w = on_integers remainder (integers v w)

abbrev pub pow : Val → Val → Result Val Fault
pow v w = on_integers power (integers v w)

abbrev pub negate : Val → Result Val Fault
negate (int z) = within (neg_ℤ z)
negate v = Err message
