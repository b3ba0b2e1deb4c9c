-- What is taken off the ends of a text.
use Rattle.std.specs.Prelude.{◌-◌, List, take, drop, length, codes, Option, Some, None, Result, Ok}
use Rattle.std.specs.Str as str
use Rattle.tera_errors.specs.Fault.{Fault}
use Rattle.tera_values.specs.Alphabet.{Alphabet}
use Rattle.tera_values.specs.Val.{ValOf, text}
use Rattle.tera_values.specs.Named.{Named}
use Rattle.tera_built_ins.specs.Arguments.{◌▸◌, GivenOf, as_text, optional}
use Rattle.tera_built_ins.specs.Pieces.{trimmed_start, trimmed_end}

module _ {C : Type 0} (alphabet : Alphabet C) where
  -- as much as there is white space
  abbrev pub blanks_off_start : List C → List C
  blanks_off_start t = drop (length (alphabet.seen t) - length (str.trim_start (alphabet.seen t))) t

  abbrev pub blanks_off_end : List C → List C
  blanks_off_end t = take (length (str.trim_end (alphabet.seen t))) t

  -- a pattern, or white space where none is given
  abbrev pub off_start : Option (GivenOf C) → List C → List C
  off_start None t = blanks_off_start t
  off_start (Some pattern) t = trimmed_start alphabet.code (alphabet.seen pattern.text) t

  abbrev pub off_end : Option (GivenOf C) → List C → List C
  off_end None t = blanks_off_end t
  off_end (Some pattern) t = trimmed_end alphabet.code (alphabet.seen pattern.text) t

  -- first the start, then the end
  abbrev pub off_both : Option (GivenOf C) → List C → List C
  off_both pattern t = off_end pattern (off_start pattern t)

-- what is left of a text keeps its mark
abbrev pub what_is_left : {C : Type 0} → (Option (GivenOf C) → List C → List C) → ValOf C
    → Named (ValOf C) → Result (ValOf C) Fault
what_is_left left v given =
    as_text v ▸ λ g.
    optional as_text (codes "pat") given ▸ λ pattern.
    Ok (text (left pattern g.text) g.safe)

module _ {C : Type 0} (alphabet : Alphabet C) where
  abbrev pub trim_of : ValOf C → Named (ValOf C) → Result (ValOf C) Fault
  trim_of = what_is_left (off_both alphabet)

  abbrev pub trim_start_of : ValOf C → Named (ValOf C) → Result (ValOf C) Fault
  trim_start_of = what_is_left (off_start alphabet)

  abbrev pub trim_end_of : ValOf C → Named (ValOf C) → Result (ValOf C) Fault
  trim_end_of = what_is_left (off_end alphabet)
