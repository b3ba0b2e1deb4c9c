-- What the numbers of a caller in another language say.
use Rattle.std.specs.Prelude.{ℕ, Bool, not, cond, ◌==◌}
use Rattle.tera_data.specs.declared.number.Floats.{Floats}
use Rattle.tera_data.specs.declared.number.Floats.TheVariants as floats

-- any number but 0 says yes
abbrev pub is_set : ℕ → Bool
is_set n = not (n == 0)

-- what becomes of numbers that are no integers
abbrev pub floats_if : ℕ → Floats
floats_if n = cond (is_set n) floats.Text floats.Refuse
