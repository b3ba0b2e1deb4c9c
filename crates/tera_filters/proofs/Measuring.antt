-- Sizes of units, and hundredths of them.
use Rattle.std.proofs.Common.{◌≡◌, ℕ, zero, suc, ◌+◌, ◌*◌, ◌/◌, ◌%◌, ◌^◌, ◌<◌, ◌≤◌, Bool, false, List, length, drop, get_or, ap, ◌∙◌, arith}
use Rattle.std.specs.Prelude.{if◌then◌else◌, nat_lt}
use Rattle.std.specs.Char.{encode_utf8}
use Rattle.std.proofs.lemmas.Bool.Decides.{nat_tests}
use Rattle.std.proofs.lemmas.List.{at_drop_more}
use Rattle.std.proofs.Math.Nat.{add-mul-div_right, div-add-mod, mul-le-mul, mul-le-mul_right}
use Rattle.std.proofs.Math.Numerals.{suc-eq-add-one}
use Rattle.tera_filters.specs.FileSizes.{base, hundredths, in_first_unit, measured}

-- ---- how large units get

-- no unit at this position has more bytes
abbrev pub limit : ℕ → ℕ
limit zero = 1024
limit (suc i) = limit i * 1024

pub limit-small : (i : ℕ) → i ≤ 7 → limit i ≤ 2 ^ 80
limit-small zero h = omega arith
limit-small (suc zero) h = omega arith
limit-small (suc (suc zero)) h = omega arith
limit-small (suc (suc (suc zero))) h = omega arith
limit-small (suc (suc (suc (suc zero)))) h = omega arith
limit-small (suc (suc (suc (suc (suc zero))))) h = omega arith
limit-small (suc (suc (suc (suc (suc (suc zero)))))) h = omega arith
limit-small (suc (suc (suc (suc (suc (suc (suc zero))))))) h = omega arith
limit-small (suc (suc (suc (suc (suc (suc (suc (suc i)))))))) h = absurd (omega arith)

pub limit-next : (i size by : ℕ) → size ≤ limit i → by ≤ 1024 → size * by ≤ limit (i + 1)
limit-next i size by small few =
    let next : limit i * 1024 ≡ limit (i + 1) = ap limit (suc-eq-add-one i) in
    omega (arith, mul-le-mul small few, next)

-- ---- hundredths

pub whole-small : (n size : ℕ) → 1000 ≤ size → 1000 * (n / size) ≤ n
whole-small n size low = omega (arith, mul-le-mul_right (n / size) low, div-add-mod n size)

pub hundredths-is : (n size : ℕ) → 1000 ≤ size → n / size * 100 + (n % size * 100 + size / 2) / size ≡ hundredths size n
hundredths-is n size low =
    let some : 0 < size = omega arith in
    let parted : n * 100 + size / 2 ≡ (n % size * 100 + size / 2) + n / size * 100 * size = omega (arith, div-add-mod n size) in
    let divided : (n * 100 + size / 2) / size ≡ (n % size * 100 + size / 2) / size + n / size * 100
    = ap (λ (m : ℕ). m / size) parted ∙ add-mul-div_right (n % size * 100 + size / 2) (n / size * 100) some in
    omega (arith, divided)

-- ---- the first unit that suits

pub not_fewer : (h k : ℕ) → k ≤ h → nat_lt h k ≡ false
not_fewer h k many = grind (arith, nat_tests)

pub unit-passed : (binary : Bool) (n size : ℕ) (ps : List ℕ) (i : ℕ) → i < length ps → nat_lt (hundredths size n) (base binary * 100) ≡ false → in_first_unit binary n size (drop i ps) ≡ in_first_unit binary n (size * base binary) (drop (i + 1) ps)
unit-passed binary n size ps i h many =
    at_drop_more (in_first_unit binary n size) ps i 0 h
    ∙ ap (λ (b : Bool). if b then measured binary (hundredths size n) (encode_utf8 (get_or ps i 0)) else in_first_unit binary n (size * base binary) (drop (i + 1) ps)) many
