-- Texts that only grow, and texts in which bytes stand in other forms.
use Rattle.std.specs.Prelude.{◌≡◌, ℕ, ◌<◌, ◌≤◌, Bool, false, ◌||◌, cond, nat_eq, List, [], ◌∷◌, ◌++◌, slice_index_or}

-- what was there is still there, with more after it
pub record Keeps (old new : List ℕ) : Type 0 where
  pub more : List ℕ
  pub is : new ≡ old ++ more

-- each byte in its form
abbrev pub by_byte : (ℕ → List ℕ) → List ℕ → List ℕ
by_byte form [] = []
by_byte form (b ∷ bs) = form b ++ by_byte form bs

-- the form of a byte in a table, or else the byte itself
abbrev pub form_in : List (ℕ × List ℕ) → ℕ → List ℕ
form_in [] b = b ∷ []
form_in (row ∷ rows) b = cond (nat_eq b row.0) row.1 (form_in rows b)

-- the bytes from position i up to position j stand for themselves
abbrev pub IsPlain : (ℕ → List ℕ) → List ℕ → ℕ → ℕ → Type 0
IsPlain form bs i j =
    (k : ℕ) → i ≤ k → k < j → form (slice_index_or bs k 0) ≡ slice_index_or bs k 0 ∷ []

-- the test fails at every byte from position i up to position j
abbrev pub IsNever : (ℕ → Bool) → List ℕ → ℕ → ℕ → Type 0
IsNever test bs i j = (k : ℕ) → i ≤ k → k < j → test (slice_index_or bs k 0) ≡ false

abbrev pub is_one_of : (a b c d e x : ℕ) → Bool
is_one_of a b c d e x = (((nat_eq x a || nat_eq x b) || nat_eq x c) || nat_eq x d) || nat_eq x e
