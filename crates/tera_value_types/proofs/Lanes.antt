-- Sixteen bytes at a time: which of them are one of five.
use Rattle.std.proofs.Common.{◌≡◌, ℕ, ◌%◌, ◌^◌, ◌≢◌, not, Bool, true, false, ◌||◌, cond, eqb, List, [], ◌∷◌, length, map, replicate, bit_or, refl, ap, ◌∙◌, arith}
use Rattle.std.specs.Simd.Lanes.{zip2, mask_l, top}
use lib.Count.{count_trailing_zeros}
use Rattle.std.specs.List.{prefix_len}
use Rattle.std.proofs.lemmas.Simd.{zip2_splat, mask_l-mod, trailing_mask_l}
use Rattle.std.proofs.lemmas.List.{length-map}
use Rattle.tera_value_types.specs.Growth.{is_one_of}

-- all bits of a lane where the test holds
abbrev pub lit : (ℕ → Bool) → ℕ → ℕ
lit p x = cond (p x) 255 0

abbrev pub equal_to : ℕ → ℕ → Bool
equal_to y x = eqb x y

abbrev equals : List ℕ → ℕ → List ℕ
equals xs y = zip2 (λ a b. cond (eqb a b) 255 0) xs (replicate 16 y)

bits_or : (a b : Bool) → bit_or (cond a 255 0) (cond b 255 0) ≡ cond (a || b) 255 0
bits_or false false = refl
bits_or false true = refl
bits_or true false = refl
bits_or true true = refl

lit_or : (p q : ℕ → Bool) (xs : List ℕ) → zip2 bit_or (map (lit p) xs) (map (lit q) xs) ≡ map (lit (λ x. p x || q x)) xs
lit_or p q [] = refl
lit_or p q (x ∷ xs) = λ i. bits_or (p x) (q x) i ∷ lit_or p q xs i

either : (p q : ℕ → Bool) (xs ys zs : List ℕ) → ys ≡ map (lit p) xs → zs ≡ map (lit q) xs → zip2 bit_or ys zs ≡ map (lit (λ x. p x || q x)) xs
either p q xs ys zs e f = (λ i. zip2 bit_or (e i) (f i)) ∙ lit_or p q xs

top_lit : (b : Bool) → top 7 (cond b 255 0) ≡ b
top_lit false = refl
top_lit true = refl

tops_lit : (p : ℕ → Bool) (xs : List ℕ) → map (top 7) (map (lit p) xs) ≡ map p xs
tops_lit p [] = refl
tops_lit p (x ∷ xs) = λ i. top_lit (p x) i ∷ tops_lit p xs i

abbrev pub any_lanes : (a b c d e : ℕ) → List ℕ → List ℕ
any_lanes a b c d e xs = zip2 bit_or (zip2 bit_or (zip2 bit_or (zip2 bit_or (equals xs a) (equals xs b)) (equals xs c)) (equals xs d)) (equals xs e)

equal_lanes : (xs : List ℕ) (y : ℕ) → length xs ≡ 16 → equals xs y ≡ map (lit (equal_to y)) xs
equal_lanes xs y n = zip2_splat (λ a b. cond (eqb a b) 255 0) xs 16 y n

any_is : (a b c d e : ℕ) (xs : List ℕ) → length xs ≡ 16 → any_lanes a b c d e xs ≡ map (lit (is_one_of a b c d e)) xs
any_is a b c d e xs n =
    let ab = either (equal_to a) (equal_to b) xs (equals xs a) (equals xs b) (equal_lanes xs a n) (equal_lanes xs b n) in
    let abc = either (λ x. eqb x a || eqb x b) (equal_to c) xs _ (equals xs c) ab (equal_lanes xs c n) in
    let abcd = either (λ x. (eqb x a || eqb x b) || eqb x c) (equal_to d) xs _ (equals xs d) abc (equal_lanes xs d n) in
    either (λ x. ((eqb x a || eqb x b) || eqb x c) || eqb x d) (equal_to e) xs _ (equals xs e) abcd (equal_lanes xs e n)

-- the mask of sixteen bytes
pub mask_is : (a b c d e : ℕ) (xs : List ℕ) → length xs ≡ 16 → mask_l (map (top 7) (any_lanes a b c d e xs)) % 2 ^ 64 ≡ mask_l (map (is_one_of a b c d e) xs)
mask_is a b c d e xs n =
    ap (λ (ms : List Bool). mask_l ms % 2 ^ 64) (ap (map (top 7)) (any_is a b c d e xs n) ∙ tops_lit (is_one_of a b c d e) xs)
    ∙ mask_l-mod (map (is_one_of a b c d e) xs) 64 (omega (arith, length-map xs (is_one_of a b c d e), n))

-- how many stand before the first that is one of the five
pub before_is : (a b c d e : ℕ) (xs : List ℕ) → length xs ≡ 16 → (mask_l (map (top 7) (any_lanes a b c d e xs)) % 2 ^ 64 ≢ 0)
    → count_trailing_zeros 64 (mask_l (map (top 7) (any_lanes a b c d e xs)) % 2 ^ 64) ≡ prefix_len (λ x. not (is_one_of a b c d e x)) xs
before_is a b c d e xs n some =
    let same = mask_is a b c d e xs n in
    let there : mask_l (map (is_one_of a b c d e) xs) ≢ 0 = λ none. some (same ∙ none) in
    ap (count_trailing_zeros 64) same ∙ trailing_mask_l (is_one_of a b c d e) 64 xs (omega (arith, n)) (omega (arith, there))
