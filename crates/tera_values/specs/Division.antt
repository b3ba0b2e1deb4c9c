-- What division with a remainder is.
use Rattle.std.specs.Prelude.{◌≡◌, ◌≢◌, ℤ, pos, ◌+ℤ◌, ◌*ℤ◌, ◌≤ℤ◌, ◌<ℤ◌, unsigned_abs, Ok}
use Rattle.std.specs.Int.{int_div_euclid, int_rem_euclid}
use Rattle.tera_value_types.specs.Val.{int}
use Rattle.tera_values.specs.Number.{floor_div, rem}

-- b goes q times into a, and r is left: never negative, and nearer to 0 than b
pub record IsDivision (a b q r : ℤ) : Type 0 where
  pub whole : a ≡ (b *ℤ q) +ℤ r
  pub left_over : pos 0 ≤ℤ r
  pub less : r <ℤ pos (unsigned_abs b)

-- so do the quotient and the remainder that `//` and `%` are defined by, of any integers
abbrev pub DivisionIsEuclids : Type 0
DivisionIsEuclids = (a b : ℤ) → b ≢ pos 0 → IsDivision a b (int_div_euclid a b) (int_rem_euclid a b)

-- and where the values of `//` and `%` are integers, they are these
abbrev pub ValuesAreDivided : Type 0
ValuesAreDivided =
    (a b q r : ℤ) → floor_div (int a) (int b) ≡ Ok (int q) → rem (int a) (int b) ≡ Ok (int r)
    → IsDivision a b q r
