-- The text that a value prints.
use Rattle.std.specs.Prelude.{ℕ, Bool, true, false, List, [], ◌∷◌, ◌++◌, codes}
use Rattle.std.specs.Fmt.{signed_decimal}
use Rattle.std.specs.Str.Lossy.{utf8_lossy}
use Rattle.std.specs.Str.{byte}
use Rattle.tera_value_types.specs.Alphabet.{Alphabet, plain, made}
use Rattle.tera_value_types.specs.Growth.{by_byte, form_in}
use Rattle.tera_value_types.specs.Val.{Val, ValOf, Vals, ValsOf, Entries, EntriesOf, KeyVal, kbool, kint, ktext, undefined, none, bool, int, text, bytes, array, map, no_items, item, no_entries, entry}

abbrev pub bool_text : Bool → List ℕ
bool_text true = codes "true"
bool_text false = codes "false"

-- one byte of a quoted text
abbrev pub quoted_byte : ℕ → List ℕ
quoted_byte =
    form_in (
    (byte "\\", codes "\\\\") ∷ (byte "\"", codes "\\\"")
    ∷ (byte "\n", codes "\\n") ∷ (byte "\r", codes "\\r") ∷ (byte "\t", codes "\\t") ∷ [])

abbrev pub escaped : List ℕ → List ℕ
escaped = by_byte quoted_byte

abbrev pub quoted : List ℕ → List ℕ
quoted t = codes "\"" ++ escaped t ++ codes "\""

abbrev pub key_text : KeyVal → List ℕ
key_text (kbool b) = bool_text b
key_text (kint z) = signed_decimal z
key_text (ktext t) = quoted t

module _ {C : Type 0} (a : Alphabet C) where
  -- as it stands inside an array or a map
  abbrev mutual
    pub inside_of : ValOf C → List ℕ
    inside_of undefined = codes "undefined"
    inside_of none = codes "none"
    inside_of (bool b) = bool_text b
    inside_of (int z) = signed_decimal z
    inside_of (text t safe) = quoted (a.seen t)
    inside_of (bytes t) = quoted (utf8_lossy t)
    inside_of (array no_items) = codes "[]"
    inside_of (array (item v vs)) = codes "[" ++ inside_of v ++ rest_inside_of vs ++ codes "]"
    inside_of (map no_entries) = codes "{}"
    inside_of (map (entry k v es)) =
        codes "{" ++ key_text k ++ codes ": " ++ inside_of v ++ pairs_inside_of es ++ codes "}"

    pub rest_inside_of : ValsOf C → List ℕ
    rest_inside_of no_items = []
    rest_inside_of (item v vs) = codes ", " ++ inside_of v ++ rest_inside_of vs

    pub pairs_inside_of : EntriesOf C → List ℕ
    pairs_inside_of no_entries = []
    pairs_inside_of (entry k v es) =
        codes ", " ++ key_text k ++ codes ": " ++ inside_of v ++ pairs_inside_of es

  abbrev pub printed_of : ValOf C → List C
  printed_of undefined = []
  printed_of none = []
  printed_of (bool b) = a.spelled made (bool_text b)
  printed_of (int z) = a.spelled made (signed_decimal z)
  printed_of (text t safe) = t
  printed_of (bytes t) = a.spelled made (utf8_lossy t)
  printed_of (array vs) = a.spelled made (inside_of (array vs))
  printed_of (map es) = a.spelled made (inside_of (map es))

-- of texts of bytes
abbrev pub inside : Val → List ℕ
inside = inside_of plain

abbrev pub rest_inside : Vals → List ℕ
rest_inside = rest_inside_of plain

abbrev pub pairs_inside : Entries → List ℕ
pairs_inside = pairs_inside_of plain

abbrev pub printed : Val → List ℕ
printed = printed_of plain
