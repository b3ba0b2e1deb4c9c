-- Stacks as lists, the topmost first.
use Rattle.std.specs.Prelude.{ℕ, ◌-◌, List, length, drop}

-- the undermost k of a stack
abbrev pub lower : {X : Type 0} → ℕ → List X → List X
lower k xs = drop (length xs - k) xs
