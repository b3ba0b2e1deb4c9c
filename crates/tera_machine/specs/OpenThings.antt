-- Things that are open and have numbers, and marks by number.
use Rattle.std.specs.Prelude.{◌≡◌, ◌≤◌, ◌-◌, ℕ, suc, Bool, nat_eq, nat_lt, List, [], ◌∷◌, ◌++◌, length, map, take, drop, if◌then◌else◌}
use Rattle.std.specs.List.{list_any}
use Rattle.std.specs.Map.{lookup}
use Rattle.std.specs.Option.{unwrap_or}
use Rattle.tera_machine.specs.declared.open_things.Marked.{Marked}

-- those that are open inside, and those around them, each list the topmost first
pub record Nested (X : Type 0) : Type 0 where
  pub inner : List X
  pub around : List X

abbrev pub nothing : {X : Type 0} → Nested X
nothing = record { inner = []; around = [] }

-- one more inside, and one fewer
abbrev pub one_more : {X : Type 0} → X → Nested X → Nested X
one_more x o = record o { inner = x ∷ o.inner }

abbrev pub one_fewer : {X : Type 0} → Nested X → Nested X
one_fewer o = record o { inner = drop 1 o.inner }

-- all lies around, and nothing inside
abbrev pub begun : {X : Type 0} → Nested X → Nested X
begun o = record { inner = []; around = o.inner ++ o.around }

-- all above so many lies inside
abbrev pub parted : {X : Type 0} → ℕ → List X → Nested X
parted start all = record {
  inner = take (length all - start) all;
  around = drop (length all - start) all;
}

abbrev pub ended_at : {X : Type 0} → ℕ → Nested X → Nested X
ended_at start o = parted start (o.inner ++ o.around)

-- whether one of them has this number
abbrev pub has_number : {X : Type 0} → (X → ℕ) → ℕ → List X → Bool
has_number number_of n xs = list_any (λ x. nat_eq n (number_of x)) xs

-- how high the topmost of this number lies, 1 for the lowest, or 0 where there is none
abbrev pub height_of : {X : Type 0} → (X → ℕ) → ℕ → List X → ℕ
height_of number_of n [] = 0
height_of number_of n (x ∷ xs) =
    if nat_eq n (number_of x) then suc (length xs) else height_of number_of n xs

-- so many of the lowest have no mark
abbrev pub few : ℕ
few = 8

-- a height as a mark: 0 where it is that of one of the few lowest
abbrev pub marked_at : ℕ → ℕ
marked_at height = if nat_lt few height then height else 0

-- the mark of a number among these, 0 where there is none
abbrev pub mark_at : List (ℕ × ℕ) → ℕ → ℕ
mark_at marks n = unwrap_or (lookup (nat_eq n) marks) 0

-- the new marks are the old, but for that of this number
abbrev pub IsMarked : ℕ → ℕ → List (ℕ × ℕ) → List (ℕ × ℕ) → Type 0
IsMarked number mark old new =
    (n : ℕ) → mark_at new n ≡ (if nat_eq n number then mark else mark_at old n)

abbrev pub things_of : {X : Type 0} → List (Marked X) → List X
things_of ms = map (λ m. m.thing) ms

-- each has the mark that its number had before it
abbrev pub AreBefore : {X : Type 0} → (X → ℕ) → List (Marked X) → Type 0
AreBefore number_of [] = Unit {0}
AreBefore number_of (m ∷ ms) =
    (m.before ≡ marked_at (height_of number_of (number_of m.thing) (things_of ms)))
    × AreBefore number_of ms

-- these are the marks of what is open, and it starts among it
pub record AreMarked {X : Type 0} (number_of : X → ℕ) (start : ℕ) (ms : List (Marked X))
    (marks : List (ℕ × ℕ)) : Type 0 where
  pub started : start ≤ length ms
  pub marked : (n : ℕ) → mark_at marks n ≡ marked_at (height_of number_of n (things_of ms))
  pub before : AreBefore number_of ms
