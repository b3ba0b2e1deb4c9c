-- What fits a number of the machine.
use Rattle.std.specs.Prelude.{ℕ, ℤ, pos, ◌+ℤ◌, ◌*ℤ◌, ◌*◌, ◌<◌, ◌<ℤ◌, FitsSigned}
use mir.Syntax.{w128}

-- each of so many numbers, each a step behind the one before, has room
abbrev pub HasRoom : ℤ → ℤ → ℕ → Type 0
HasRoom start step count =
    (position : ℕ) → position < count → FitsSigned w128 (start +ℤ (step *ℤ pos position))

-- each of so many strides begins within the distance
abbrev pub EachIsBelow : ℤ → ℕ → ℕ → Type 0
EachIsBelow distance stride count =
    (position : ℕ) → position < count → pos (stride * position) <ℤ distance
