-- Values as texts that are safe, or are not.
use Rattle.std.specs.Prelude.{true, false, Result, Ok, Err, if◌then◌else◌}
use Rattle.tera_errors.specs.Fault.{Fault, invalid_argument}
use Rattle.tera_values.specs.Alphabet.{Alphabet}
use Rattle.tera_values.specs.Val.{ValOf, text}
use Rattle.tera_values.specs.Access.{is_safe, is_undefined}
use Rattle.tera_values.specs.Printed.{printed_of}
use Rattle.tera_built_ins.specs.Arguments.{◌▸◌, as_text}
use Rattle.tera_built_ins.specs.Escaping.{Escaping}
use Rattle.tera_built_ins.specs.Parts.{part}

module _ {C : Type 0} (alphabet : Alphabet C) where
  -- the printed text, trusted from here on
  abbrev pub safe_of : ValOf C → Result (ValOf C) Fault
  safe_of v =
      if is_undefined v
      then Err invalid_argument
      else Ok (text (alphabet.trusted (is_safe v) (printed_of alphabet v)) true)

  -- the escape, unless the text is safe already
  abbrev pub escape_of : Escaping → ValOf C → Result (ValOf C) Fault
  escape_of view v = as_text v ▸ λ g. Ok (text (part alphabet view true g) true)

  -- the printed text
  abbrev pub str_of : ValOf C → Result (ValOf C) Fault
  str_of v = Ok (text (printed_of alphabet v) false)
