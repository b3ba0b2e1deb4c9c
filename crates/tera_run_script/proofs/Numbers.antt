-- Integers that fields write.
use Rattle.std.proofs.Common.{◌≡◌, ℤ, pos, negsuc, Bool, true, false, cond, ◌&&◌, ◌==◌, [], ◌∷◌, drop, Some, None, refl, sym, ap, subst, arith, if◌then◌else◌}
use Rattle.std.proofs.lemmas.Bool.Decides.{nat_tests}
use Rattle.std.proofs.lemmas.Str.Parse.{IsNumeralModel, numerals_by_value, tells_all_ascii_digits}
use Rattle.std.specs.Prelude.{slice_index}
use Rattle.std.specs.Str.{all_ascii_digits}
use Rattle.std.specs.Str.Parse.{IsNumeral, digits_value, starts_with_minus, without_leading_sign, signed_digits_value}
use Rattle.std.specs.Int.RustNames.{FitsSigned}
use Rattle.tera.specs.Number.{in_range}
use Rattle.tera.specs.Site.{Text}
use Rattle.tera_run_script.specs.Script.{is_digits, unsigned, is_integer, integer}
use mir.Syntax.{w128}

abbrev Holds : Bool → Type 0
Holds true = Unit {0}
Holds false = ⊥

own : IsNumeralModel (λ ds. all_ascii_digits ds ≡ true) (digits_value 10)
own = numerals_by_value _ tells_all_ascii_digits

numeral-digits : (ds : Text) → is_digits ds ≡ true → IsNumeral 10 ds
numeral-digits [] e = absurd (subst Holds (sym e) tt)
numeral-digits (c ∷ cs) e = (omega arith, own.to (c ∷ cs) e)

is_digits-numeral : (ds : Text) → IsNumeral 10 ds → is_digits ds ≡ true
is_digits-numeral [] n = absurd (omega (arith, n.0))
is_digits-numeral (c ∷ cs) n = own.from (c ∷ cs) n.1

unsigned_by : (b p : Bool) (field : Text) → p ≡ false → cond b (drop 1 field) (drop (cond p 1 0) field) ≡ (if b then drop 1 field else field)
unsigned_by true p field e = refl
unsigned_by false false field e = refl
unsigned_by false true field e = absurd (subst Holds e tt)

-- where no plus stands in front
without_leading_sign-unsigned : (field : Text) → (slice_index field 0 == 43) ≡ false → without_leading_sign field ≡ unsigned field
without_leading_sign-unsigned field e = unsigned_by (starts_with_minus field) (slice_index field 0 == 43) field e

fits-in_range : (z : ℤ) → in_range z ≡ true → FitsSigned w128 z
fits-in_range (pos n) e = record { sfits = grind (arith, nat_tests, e) }
fits-in_range (negsuc n) e = record { sfits = grind (arith, nat_tests, e) }

in_range-fits : (z : ℤ) → FitsSigned w128 z → in_range z ≡ true
in_range-fits (pos n) f = grind (arith, nat_tests, f.sfits)
in_range-fits (negsuc n) f = grind (arith, nat_tests, f.sfits)

abbrev pub Reads : Text → Type 0
Reads field = IsNumeral 10 (without_leading_sign field) × FitsSigned w128 (signed_digits_value 10 field)

pub integer-some : (field : Text) (number : ℤ) → (slice_index field 0 == 43) ≡ false → Reads field → number ≡ signed_digits_value 10 field → Some number ≡ integer field
integer-some field number plus h e =
    let is : is_integer field ≡ true = is_digits-numeral (unsigned field) (subst (IsNumeral 10) (without_leading_sign-unsigned field plus) h.0) in
    let fits = in_range-fits (signed_digits_value 10 field) h.1 in
    rw (is, fits) (ap Some e)

none_by : (b c : Bool) (z : ℤ) → (b ≡ true → c ≡ true → ⊥) → None ≡ (if b && c then Some z else None)
none_by true true z h = absurd (h refl refl)
none_by true false z h = refl
none_by false c z h = refl

pub integer-none : (field : Text) → (slice_index field 0 == 43) ≡ false → ¬ (Reads field) → None ≡ integer field
integer-none field plus h =
    let number = signed_digits_value 10 field in
    none_by (is_integer field) (in_range number) number (λ is fits. h (subst (IsNumeral 10) (sym (without_leading_sign-unsigned field plus)) (numeral-digits (unsigned field) is), fits-in_range number fits))
