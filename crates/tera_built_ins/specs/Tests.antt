-- What `is` asks of a value.
use Rattle.std.specs.Prelude.{◌%◌, ◌&&◌, ℤ, Bool, true, false, not, eqb, nat_eq, pos, unsigned_abs, is_some, Result, Ok, codes}
use Rattle.std.specs.List.{starts_with, ends_with}
use Rattle.std.specs.Ordering.{int_eq}
use Rattle.tera_errors.specs.Fault.{Fault}
use Rattle.tera_values.specs.Val.{Val, ValOf, none, bool, text, bytes, array, map}
use Rattle.tera_values.specs.Alphabet.{Alphabet}
use Rattle.tera_values.specs.Access.{is_undefined, int_of}
use Rattle.tera_values.specs.Slices.{contains}
use Rattle.tera_values.specs.Named.{Named}
pub use Rattle.tera_values.specs.Arguments.{is_text}
use Rattle.tera_built_ins.specs.Arguments.{◌▸◌, as_integer, as_text, as_any, needed}

-- the kinds
abbrev pub is_integer : Val → Bool
is_integer v = is_some (int_of v)

abbrev pub is_map : Val → Bool
is_map (map es) = true
is_map v = false

abbrev pub is_bool : Val → Bool
is_bool (bool b) = true
is_bool v = false

abbrev pub is_array : Val → Bool
is_array (array vs) = true
is_array v = false

abbrev pub is_none : Val → Bool
is_none none = true
is_none v = false

-- what a loop can go over
abbrev pub is_iterable : Val → Bool
is_iterable (array vs) = true
is_iterable (map es) = true
is_iterable (text t s) = true
is_iterable (bytes t) = true
is_iterable v = false

-- a number into another without a remainder; 0 goes into none
abbrev pub divides : ℤ → ℤ → Bool
divides d z = not (int_eq d (pos 0)) && nat_eq (unsigned_abs z % unsigned_abs d) 0

module _ {C : Type 0} (alphabet : Alphabet C) (v : ValOf C) (given : Named (ValOf C)) where
  abbrev pub defined_test : Result Bool Fault
  defined_test = Ok (not (is_undefined v))

  abbrev pub undefined_test : Result Bool Fault
  undefined_test = Ok (is_undefined v)

  abbrev pub odd_test : Result Bool Fault
  odd_test = as_integer v ▸ λ z. Ok (not (divides (pos 2) z))

  abbrev pub even_test : Result Bool Fault
  even_test = as_integer v ▸ λ z. Ok (divides (pos 2) z)

  abbrev pub divisible_by_test : Result Bool Fault
  divisible_by_test =
      as_integer v ▸ λ z. needed as_integer (codes "divisor") given ▸ λ d. Ok (divides d z)

  abbrev pub starting_with_test : Result Bool Fault
  starting_with_test = as_text v ▸ λ whole. needed as_text (codes "pat") given ▸ λ part.
      Ok (starts_with eqb (alphabet.seen whole.text) (alphabet.seen part.text))

  abbrev pub ending_with_test : Result Bool Fault
  ending_with_test = as_text v ▸ λ whole. needed as_text (codes "pat") given ▸ λ part.
      Ok (ends_with eqb (alphabet.seen whole.text) (alphabet.seen part.text))

  -- an equal item of an array, a part of a text, a key of a map
  abbrev pub containing_test : Result Bool Fault
  containing_test =
      needed as_any (codes "pat") given ▸ λ part. contains (alphabet.bare v) (alphabet.bare part)
