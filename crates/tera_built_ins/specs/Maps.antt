-- Filters of maps.
use Rattle.std.specs.Prelude.{map as each, Option, Some, None, false, [], ◌∷◌, Result, Ok, Err, codes}
use Rattle.tera_errors.specs.Fault.{Fault, message}
use Rattle.tera_values.specs.Alphabet.{Alphabet, made}
use Rattle.tera_values.specs.Val.{ValOf, KeyVal, kbool, kint, ktext, bool, int, text, array, vals}
use Rattle.tera_values.specs.Access.{find}
use Rattle.tera_values.specs.Named.{Named}
use Rattle.tera_built_ins.specs.declared.maps.EntryPart.{EntryPart}
use Rattle.tera_built_ins.specs.declared.maps.EntryPart.TheVariants as part
use Rattle.tera_built_ins.specs.Arguments.{◌▸◌, as_map, as_text, as_any, needed, optional}

-- what is made of each entry, in the order of the map
abbrev pub each_of : {C : Type 0} → (KeyVal × ValOf C → ValOf C) → ValOf C → Result (ValOf C) Fault
each_of make v = as_map v ▸ λ es. Ok (array (vals (each make es)))

-- the values, in the order of the map
abbrev pub values_of : {C : Type 0} → ValOf C → Result (ValOf C) Fault
values_of = each_of (λ e. e.1)

-- the value, or else what stands in for it
abbrev pub or_else : {C : Type 0} → Option (ValOf C) → Option (ValOf C) → Result (ValOf C) Fault
or_else (Some v) default = Ok v
or_else None (Some w) = Ok w
or_else None None = Err message

module _ {C : Type 0} (alphabet : Alphabet C) where
  -- a key as a value: a text without a mark
  abbrev pub key_value : KeyVal → ValOf C
  key_value (kbool b) = bool b
  key_value (kint z) = int z
  key_value (ktext t) = text (alphabet.spelled made t) false

  -- an array of two
  abbrev pub pair_of : KeyVal × ValOf C → ValOf C
  pair_of e = array (vals (key_value e.0 ∷ e.1 ∷ []))

  -- a part of an entry, as a value
  abbrev pub part_value : EntryPart → KeyVal × ValOf C → ValOf C
  part_value part.Value e = e.1
  part_value part.Key e = key_value e.0
  part_value part.Pair e = pair_of e

  -- the keys, in the order of the map
  abbrev pub keys_of : ValOf C → Result (ValOf C) Fault
  keys_of = each_of (λ e. key_value e.0)

  -- each key with its value, in the order of the map
  abbrev pub pairs_of : ValOf C → Result (ValOf C) Fault
  pairs_of = each_of pair_of

  -- the value at a text key, or else the default
  abbrev pub get_of : ValOf C → Named (ValOf C) → Result (ValOf C) Fault
  get_of v given =
      as_map v ▸ λ es.
      needed as_text (codes "key") given ▸ λ key.
      optional as_any (codes "default") given ▸ λ default.
      or_else (find (ktext (alphabet.seen key.text)) es) default
