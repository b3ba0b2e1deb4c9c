-- What an integer writes is a number of JSON.
use Rattle.std.proofs.Common.{◌≡◌, ℕ, ℤ, pos, negsuc, zero, suc, ◌+◌, ◌/◌, ◌%◌, ◌^◌, ◌<◌, ◌≤◌, Bool, true, cond, ◌==◌, List, [], ◌∷◌, ◌++◌, length, drop, Option, Some, None, decimal, refl, ap, sym, subst, ◌∙◌, arith}
use Rattle.std.specs.Prelude.{option_and_then}
use Rattle.std.specs.Char.{is_ascii_digit}
use Rattle.std.specs.Fmt.{signed_decimal}
use Rattle.std.specs.List.{prefix_len}
use Rattle.std.specs.Str.Parse.{AllDigits}
use Rattle.std.proofs.lemmas.Bool.{ne_eqb}
use Rattle.std.proofs.lemmas.Bool.Decides.{nat_tests}
use Rattle.std.proofs.lemmas.Fmt.{decimal_by_steps_wide, decimal_digit, decimal_is_IsNumeral_wide}
use Rattle.std.proofs.lemmas.List.{drop_all}
use Rattle.std.proofs.lemmas.Str.Parse.{digit_from_value}
use Rattle.json.specs.Print.{IsNumber}
use Rattle.json.specs.Word.{after_exponent, after_fraction, after_number, after_whole}
use lib.Signed.{mag}

-- a text that begins with a digit other than 0
record Leads (ds : List ℕ) : Type 0 where
  first : ℕ
  rest : List ℕ
  large : 48 < first
  is : ds ≡ first ∷ rest

one-leads : (n : ℕ) → n < 10 → 0 < n → Leads ((48 + n) ∷ [])
one-leads n small some = record { first = 48 + n; rest = []; large = omega arith; is = refl }

more-leads : (n : ℕ) (ds : List ℕ) → 10 ≤ n → (0 < n / 10 → Leads ds) → 0 < n → Leads (ds ++ ((48 + n % 10) ∷ []))
more-leads n ds large leads some =
    let l = leads (omega arith) in
    record { first = l.first; rest = l.rest ++ ((48 + n % 10) ∷ []); large = l.large; is = ap (λ (t : List ℕ). t ++ ((48 + n % 10) ∷ [])) l.is }

decimal-leads : (n : ℕ) → n < 10 ^ 64 → 0 < n → Leads (decimal n)
decimal-leads = decimal_by_steps_wide (λ n ds. 0 < n → Leads ds) one-leads more-leads

digit-tested : (c : ℕ) → (48 ≤ c) × (c ≤ 57) → is_ascii_digit c ≡ true
digit-tested c h = let low = h.0 in let high = h.1 in grind (arith, nat_tests)

all-taken : (ds : List ℕ) → AllDigits 10 ds → prefix_len is_ascii_digit ds ≡ length ds
all-taken [] all = refl
all-taken (c ∷ cs) all =
    ap (λ (b : Bool). cond b (1 + prefix_len is_ascii_digit cs) 0) (digit-tested c (digit_from_value c all.0)) ∙ omega (arith, all-taken cs all.1)

whole-is : (x : ℕ) (xs : List ℕ) → 48 < x → AllDigits 10 (x ∷ xs) → after_whole (x ∷ xs) ≡ Some []
whole-is x xs large all =
    let t : List ℕ = x ∷ xs in
    let digits : ℕ → Option (List ℕ) = λ k. cond (k == 0) None (Some (drop k t)) in
    let not_zero = ne_eqb x 48 (λ e. omega arith) in
    let some = ne_eqb (suc (length xs)) 0 (λ e. omega arith) in
    ap (λ (b : Bool). cond b (Some xs) (digits (prefix_len is_ascii_digit t))) not_zero
    ∙ ap digits (all-taken t all)
    ∙ ap (λ (b : Bool). cond b None (Some (drop (suc (length xs)) t))) some
    ∙ ap Some (drop_all (suc (length xs)) t (omega arith))

positive-is : (x : ℕ) (xs : List ℕ) → 48 < x → AllDigits 10 (x ∷ xs) → IsNumber (x ∷ xs)
unfolding after_number
positive-is x xs large all =
    ap (λ (b : Bool). option_and_then after_exponent (option_and_then after_fraction (after_whole (cond b xs (x ∷ xs))))) (ne_eqb x 45 (λ e. omega arith))
    ∙ ap (λ (o : Option (List ℕ)). option_and_then after_exponent (option_and_then after_fraction o)) (whole-is x xs large all)

negative-is : (x : ℕ) (xs : List ℕ) → 48 < x → AllDigits 10 (x ∷ xs) → IsNumber (45 ∷ x ∷ xs)
unfolding after_number
negative-is x xs large all = ap (λ (o : Option (List ℕ)). option_and_then after_exponent (option_and_then after_fraction o)) (whole-is x xs large all)

zero-is : IsNumber (48 ∷ [])
unfolding after_number
zero-is = refl

pub integer-is_number : (z : ℤ) → mag z < 2 ^ 127 → IsNumber (signed_decimal z)
integer-is_number (pos zero) small = subst IsNumber (sym (decimal_digit 0 (omega arith))) zero-is
integer-is_number (pos (suc n)) small =
    let l = decimal-leads (suc n) (omega arith) (omega arith) in
    let all = subst (AllDigits 10) l.is (decimal_is_IsNumeral_wide (suc n) (omega arith)).0.1 in
    subst IsNumber (sym l.is) (positive-is l.first l.rest l.large all)
integer-is_number (negsuc n) small =
    let l = decimal-leads (suc n) (omega arith) (omega arith) in
    let all = subst (AllDigits 10) l.is (decimal_is_IsNumeral_wide (suc n) (omega arith)).0.1 in
    subst (λ (t : List ℕ). IsNumber (45 ∷ t)) (sym l.is) (negative-is l.first l.rest l.large all)
