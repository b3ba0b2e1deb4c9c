-- What the objects of the example mean.
use Rattle.std.specs.Prelude.{ℕ, pos, Bool, false, nat_le, ◌++◌, codes, Result, Ok, Err}
use Rattle.tera.specs.Fault.{Fault, invalid_argument}
use Rattle.tera.specs.Operand.{then}
use Rattle.tera.specs.Val.{Val, int, text}
use Rattle.tera.specs.View.{View, escaped_if_needed}

-- what is written for a value, between two tags
abbrev pub strong : Val → View → Result Val Fault
strong v view =
    then (escaped_if_needed view v) (λ t. Ok (text (codes "<b>" ++ t ++ codes "</b>") false))

-- whether an age is eighteen or more
abbrev pub is_adult : Val → Result Bool Fault
is_adult (int (pos n)) = Ok (nat_le 18 n)
is_adult (int z) = Ok false
is_adult v = Err invalid_argument
