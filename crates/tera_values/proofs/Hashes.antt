-- The hash of a short text tells the whole text.
use Rattle.std.proofs.Common.{◌≡◌, ℕ, suc, ◌+◌, ◌*◌, ◌%◌, ◌^◌, ◌≤◌, ◌<◌, Bool, true, false, cond, nat_lt, List, [], ◌∷◌, drop, get_or, length, Fits, w8, refl, ap, ◌∙◌, drop-cons, arith}
use Rattle.std.specs.Int.Digits.{number_from_digits_after, AllBelowBase}
use Rattle.std.proofs.lemmas.Int.Digits.{number_after_ge, number_after_lt}
use Rattle.std.proofs.Math.Nat.{pow-le-pow_right}
use Rattle.tera_values.specs.Naming.{name_hash, packed, short_hash}

abbrev pub IsText : List ℕ → Type 0
IsText a = (i : ℕ) → Fits w8 (get_or a i 0)

-- behind two numbers that are between p and twice p, other bytes make other numbers
same_behind : (p m n : ℕ) (a b : List ℕ) → IsText a → IsText b → p ≤ m → m < 2 * p → p ≤ n → n < 2 * p → number_from_digits_after 256 m a ≡ number_from_digits_after 256 n b → (m ≡ n) × (a ≡ b)
same_behind p m n [] [] f g h i j k e = (e, refl)
same_behind p m n [] (y ∷ b) f g h i j k e = absurd (omega (arith, e, number_after_ge 256 (n * 256 + y) b (omega arith)))
same_behind p m n (x ∷ a) [] f g h i j k e = absurd (omega (arith, e, number_after_ge 256 (m * 256 + x) a (omega arith)))
same_behind p m n (x ∷ a) (y ∷ b) f g h i j k e =
    let s : x < 256 = (f 0).fits in
    let t : y < 256 = (g 0).fits in
    let both = same_behind (p * 256) (m * 256 + x) (n * 256 + y) a b (λ l. f (suc l)) (λ l. g (suc l)) (omega arith) (omega arith) (omega arith) (omega arith) e in
    let first : x ≡ y = omega (arith, both.0) in
    (omega (arith, both.0), ap (λ z. z ∷ a) first ∙ ap (λ zs. y ∷ zs) both.1)

same_packed : (a b : List ℕ) → IsText a → IsText b → packed a ≡ packed b → a ≡ b
same_packed a b f g e = (same_behind 1 1 1 a b f g (omega arith) (omega arith) (omega arith) (omega arith) e).1

all_below : (a : List ℕ) → IsText a → AllBelowBase 256 a
all_below [] f = tt
all_below (x ∷ a) f = ((f 0).fits, all_below a (λ l. f (suc l)))

pub packed_lt : (a : List ℕ) → IsText a → length a < 8 → packed a < 2 ^ 57
packed_lt a f h =
    let k : length a ≤ 7 = omega (arith, h) in
    let p : 256 ^ length a ≤ 256 ^ 7 = pow-le-pow_right (omega arith) k in
    omega (arith, number_after_lt 256 1 a (all_below a f), p)

-- what is made of the first bytes has room for one more
pub packed_next : (a : List ℕ) (i n : ℕ) → IsText a → length a < 8 → i < length a → packed a ≡ number_from_digits_after 256 n (drop i a) → n * 256 + get_or a i 0 < 2 ^ 57
packed_next a i n f h l e =
    let next = n * 256 + get_or a i 0 in
    let rest : packed a ≡ number_from_digits_after 256 next (drop (suc i) a) = e ∙ ap (number_from_digits_after 256 n) (drop-cons a i 0 l) in
    omega (arith, rest, number_after_ge 256 next (drop (suc i) a) (omega arith), packed_lt a f h)

short_by : (is_short : Bool) (m n : ℕ) → cond is_short m (2 ^ 63 + n) < 2 ^ 63 → cond is_short m (2 ^ 63 + n) ≡ m
short_by true m n h = refl
short_by false m n h = absurd (omega (arith, h))

is_short : (a : List ℕ) → name_hash a < 2 ^ 63 → name_hash a ≡ short_hash a
unfolding name_hash
is_short a h = short_by (nat_lt (length a) 8) (short_hash a) _ h

pub same_from_hash : (a b : List ℕ) (n : ℕ) → IsText a → IsText b → n < 2 ^ 63 → n ≡ name_hash a → n ≡ name_hash b → a ≡ b
same_from_hash a b n f g h s t =
    let i : n ≡ packed a * 64 + packed a % 63 = s ∙ is_short a (omega (arith, s, h)) in
    let j : n ≡ packed b * 64 + packed b % 63 = t ∙ is_short b (omega (arith, t, h)) in
    same_packed a b f g (omega (arith, i, j))
