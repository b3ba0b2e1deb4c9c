-- What std reads as an integer is what `integer_of` says.
use Rattle.std.proofs.Common.{◌≡◌, ℤ, pos, negsuc, Bool, true, false, ◌&&◌, Some, None, refl, arith, length, nat_lt, if◌then◌else◌}
use Rattle.std.proofs.lemmas.Bool.Decides.{nat_tests}
use Rattle.std.proofs.lemmas.Str.Parse.{IsNumeralModel, numerals_by_value, tells_all_ascii_digits}
use Rattle.std.specs.Str.{all_ascii_digits}
use Rattle.std.specs.Str.Parse.{IsNumeral, digits_value, without_leading_sign, signed_digits_value}
use Rattle.std.specs.Int.RustNames.{FitsSigned}
use Rattle.tera_errors.specs.Prelude.{Text}
use Rattle.tera_values.specs.Number.{in_range}
use Rattle.tera_data.specs.Numbers.{integer_of}
use mir.Syntax.{w128}

-- digits are a model of numerals
own : IsNumeralModel (λ ds. all_ascii_digits ds ≡ true) (digits_value 10)
own = numerals_by_value _ tells_all_ascii_digits

-- the two ways to say that a number has room
in_range-fits : (z : ℤ) → in_range z ≡ true → FitsSigned w128 z
in_range-fits (pos n) e = record { sfits = grind (arith, nat_tests, e) }
in_range-fits (negsuc n) e = record { sfits = grind (arith, nat_tests, e) }

fits-in_range : (z : ℤ) → FitsSigned w128 z → in_range z ≡ true
fits-in_range (pos n) f = grind (arith, nat_tests, f.sfits)
fits-in_range (negsuc n) f = grind (arith, nat_tests, f.sfits)

-- a text that std reads
abbrev pub Reads : Text → Type 0
Reads t = IsNumeral 10 (without_leading_sign t) × FitsSigned w128 (signed_digits_value 10 t)

-- a text that std reads spells what std reads
pub integer_of-some : (t : Text) → Reads t → Some (signed_digits_value 10 t) ≡ integer_of t
unfolding integer_of
integer_of-some t h =
    let digits = without_leading_sign t in
    let long : nat_lt 0 (length digits) ≡ true = grind (arith, nat_tests, h.0.0) in
    let all : all_ascii_digits digits ≡ true = own.from digits h.0.1 in
    let fits : in_range (signed_digits_value 10 t) ≡ true = fits-in_range (signed_digits_value 10 t) h.1 in
    rw (long, all, fits) refl

-- one test that fails is enough
none_by : (a b c : Bool) (z : ℤ) → (a ≡ true → b ≡ true → c ≡ true → ⊥) → None ≡ (if (a && b) && c then Some z else None)
none_by true true true z h = absurd (h refl refl refl)
none_by true true false z h = refl
none_by true false c z h = refl
none_by false b c z h = refl

-- and any other text none
pub integer_of-none : (t : Text) → ¬ (Reads t) → None ≡ integer_of t
unfolding integer_of
integer_of-none t h =
    let digits = without_leading_sign t in
    let number = signed_digits_value 10 t in
    none_by (nat_lt 0 (length digits)) (all_ascii_digits digits) (in_range number) number
    (λ long all fits. h ((grind (arith, nat_tests, long), own.to digits all), in_range-fits number fits))
