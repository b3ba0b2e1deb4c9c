-- What a look-up hands out.
use Rattle.std.specs.Prelude.{◌+◌, pos, false, Option, Some, None}
use Rattle.tera_values.specs.Alphabet.{Alphabet, plain, made}
use Rattle.tera_values.specs.Val.{Val, ValOf, KeyVal, kbool, kint, ktext, bool, int, text}
use Rattle.tera_values.specs.View.{key_view}
use Rattle.tera_state.specs.declared.found_value.FoundValue.{FoundValue}
use Rattle.tera_state.specs.declared.found_value.FoundValue.TheVariants as found

-- a key as a value
abbrev pub key_as_value_in : {C : Type 0} → Alphabet C → KeyVal → ValOf C
key_as_value_in a (kbool b) = bool b
key_as_value_in a (kint z) = int z
key_as_value_in a (ktext t) = text (a.spelled made t) false

abbrev pub key_as_value : KeyVal → Val
key_as_value = key_as_value_in plain

abbrev pub found_value : FoundValue → Option Val
found_value (found.Kept v) = Some v.now
found_value (found.Key k) = Some (key_as_value (key_view k.now))
found_value (found.Number n) = Some (int (pos n))
found_value (found.Index1 n) = Some (int (pos (n + 1)))
found_value (found.Flag b) = Some (bool b)
found_value found.Unbound = None
