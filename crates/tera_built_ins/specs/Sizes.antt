-- How much a value holds, and what it holds the other way round.
use Rattle.std.specs.Prelude.{ℕ, pos, Option, Some, None, Result, Ok, Err}
use Rattle.tera_errors.specs.Fault.{Fault, message}
use Rattle.tera_values.specs.Alphabet.{Alphabet}
use Rattle.tera_values.specs.Val.{ValOf, int}
use Rattle.tera_values.specs.Access.{count}
use Rattle.tera_values.specs.Slices.{reversed_in}

abbrev pub number_or_refused : {C : Type 0} → Option ℕ → Result (ValOf C) Fault
number_or_refused (Some n) = Ok (int (pos n))
number_or_refused None = Err message

-- how many characters, bytes, items or entries there are
abbrev pub length_of : {C : Type 0} → Alphabet C → ValOf C → Result (ValOf C) Fault
length_of alphabet v = number_or_refused (count (alphabet.bare v))

-- the last item or character first
abbrev pub reverse_of : {C : Type 0} → Alphabet C → ValOf C → Result (ValOf C) Fault
reverse_of = reversed_in
