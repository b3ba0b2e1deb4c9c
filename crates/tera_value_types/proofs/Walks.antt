-- Digits and pieces of a path.
use Rattle.std.proofs.Common.{◌≡◌, ℕ, suc, ◌+◌, ◌-◌, ◌*◌, ◌<◌, ◌≤◌, Bool, true, List, [], ◌∷◌, length, get_or, drop, None, refl, sym, ap, ◌∙◌, arith, add-one, drop-cons, inl, inr}
use Rattle.std.proofs.lemmas.Bool.Decides.{nat_tests}
use Rattle.std.specs.List.{slice_split, position_or_len, onto_first}
use Rattle.tera_value_types.proofs.Sorted.{by_cases}
use Rattle.tera_value_types.specs.Val.{Val, vals, array}
use Rattle.tera_value_types.specs.Paths.{is_digit, all_digits, number, position_named, item_named, step_to, walk}
use Rattle.tera_value_types.proofs.Counts.{list_vals}

digit_true : (b : ℕ) → 48 ≤ b → b ≤ 57 → is_digit b ≡ true
digit_true b h g = grind (arith, nat_tests)

one_digit : (b : ℕ) (bs : List ℕ) → is_digit b ≡ true → all_digits (b ∷ bs) ≡ all_digits bs
one_digit b bs h = rw h refl

pub more_digits : (ds : List ℕ) (i : ℕ) → i < length ds → 48 ≤ get_or ds i 0 → get_or ds i 0 ≤ 57 → all_digits (drop i ds) ≡ all_digits (drop (i + 1) ds)
more_digits ds i h g k = ap all_digits (drop-cons ds i 0 h) ∙ one_digit (get_or ds i 0) (drop (suc i) ds) (digit_true (get_or ds i 0) g k) ∙ ap (λ (j : ℕ). all_digits (drop j ds)) (sym (add-one i))

pub number_more : (v : ℕ) (ds : List ℕ) (i : ℕ) → i < length ds → number v (drop i ds) ≡ number (v * 10 + (get_or ds i 0 - 48)) (drop (i + 1) ds)
number_more v ds i h = ap (number v) (drop-cons ds i 0 h) ∙ ap (λ (j : ℕ). number (v * 10 + (get_or ds i 0 - 48)) (drop j ds)) (sym (add-one i))

pub number_grows : (n : ℕ) (bs : List ℕ) → n ≤ number n bs
number_grows n [] = omega arith
number_grows n (b ∷ bs) = omega (arith, number_grows (n * 10 + (b - 48)) bs)

pub step_array : (p : List ℕ) (xs : List Val) → item_named (position_named p (length xs)) xs ≡ step_to p (array (vals xs))
step_array p xs = ap (λ (l : List Val). item_named (position_named p (length l)) l) (sym (list_vals xs))

pub walk_none : (ps : List (List ℕ)) → walk ps None ≡ None
walk_none [] = refl
walk_none (p ∷ ps) = walk_none ps

cons_one : (b : ℕ) (bs : List ℕ) (parts : List (List ℕ)) → parts ≡ bs ∷ [] → onto_first b parts ≡ (b ∷ bs) ∷ []
cons_one b bs parts h = ap (onto_first b) h

-- a text with no full stop is one piece
pub split_whole : (p : ℕ → Bool) (xs : List ℕ) → position_or_len p xs ≡ length xs → slice_split p xs ≡ xs ∷ []
split_whole p [] h = refl
split_whole p (x ∷ xs) h = elim (by_cases (p x)) [
  | inl t ↦ absurd (let e : position_or_len p (x ∷ xs) ≡ 0 = rw t refl in omega (arith, e, h))
  | inr f ↦
      let e : position_or_len p (x ∷ xs) ≡ 1 + position_or_len p xs = rw f refl in
      rw f (cons_one x xs (slice_split p xs) (split_whole p xs (omega (arith, e, h))))
]
