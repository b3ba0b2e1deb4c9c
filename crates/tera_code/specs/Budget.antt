-- A budget of instructions.
use Rattle.std.specs.Prelude.{ℕ, ◌-◌, Bool, nat_lt, nat_le, cond, Option, Some, None}

-- whether so many are more than the budget has
abbrev pub is_over : ℕ → ℕ → Bool
is_over limit n = nat_lt limit n

-- how many are left of it after so many, or none where they are more than it has
abbrev pub left_of : ℕ → ℕ → Option ℕ
left_of limit n = cond (is_over limit n) None (Some (limit - n))
