-- Values as JSON.
use Rattle.std.specs.Prelude.{ℕ, Bool, true, false, cond, nat_eq, List, [], ◌∷◌, ◌++◌, flat_map, Result, Ok, Err, decimal, codes}
use Rattle.std.specs.Fmt.{signed_decimal}
use Rattle.std.specs.Char.{encode_utf8}
use Rattle.std.specs.Str.{byte, chars}
use Rattle.json.specs.Token.{Token, begin_object, end_object, begin_array, end_array, key, string, number, boolean, null}
use Rattle.json.specs.Print.{print}
use Rattle.json.specs.Layout.{pretty}
use Rattle.tera_errors.specs.Fault.{Fault, invalid_argument}
use Rattle.tera_values.specs.Printed.{bool_text}
use Rattle.tera_values.specs.Val.{Val, Vals, Entries, KeyVal, kbool, kint, ktext, undefined, none, bool, int, text, bytes, array, map, no_items, item, no_entries, entry}
use Rattle.tera_values.specs.Named.{Named}
use Rattle.tera_built_ins.specs.Arguments.{◌▸◌, as_bool, or_default}

-- a name is a text in JSON
abbrev pub name_of : KeyVal → List ℕ
name_of (kbool b) = bool_text b
name_of (kint z) = signed_decimal z
name_of (ktext t) = t

-- bytes are numbers
abbrev pub byte_tokens : List ℕ → List Token
byte_tokens [] = end_array ∷ []
byte_tokens (b ∷ bs) = number (decimal b) ∷ byte_tokens bs

abbrev mutual
  pub tokens_of : Val → Result (List Token) Fault
  tokens_of undefined = Err invalid_argument
  tokens_of none = Ok (null ∷ [])
  tokens_of (bool b) = Ok (boolean b ∷ [])
  tokens_of (int z) = Ok (number (signed_decimal z) ∷ [])
  tokens_of (text t safe) = Ok (string t ∷ [])
  tokens_of (bytes bs) = Ok (begin_array ∷ byte_tokens bs)
  tokens_of (array vs) = item_tokens vs ▸ λ ts. Ok (begin_array ∷ ts)
  tokens_of (map es) = member_tokens es ▸ λ ts. Ok (begin_object ∷ ts)

  -- with the closing bracket
  pub item_tokens : Vals → Result (List Token) Fault
  item_tokens no_items = Ok (end_array ∷ [])
  item_tokens (item v vs) = tokens_of v ▸ λ ts. item_tokens vs ▸ λ us. Ok (ts ++ us)

  pub member_tokens : Entries → Result (List Token) Fault
  member_tokens no_entries = Ok (end_object ∷ [])
  member_tokens (entry k v es) =
      tokens_of v ▸ λ ts. member_tokens es ▸ λ us. Ok (key (name_of k) ∷ ts ++ us)

-- no blanks, or a line for each item and member
abbrev pub laid_out : Bool → List Token → List ℕ
laid_out false ts = print ts
laid_out true ts = pretty ts

-- the characters that mean something to what JSON may stand in are escapes
abbrev pub script_char : ℕ → List ℕ
script_char c =
    cond (nat_eq c (byte "<")) (codes "\\u003c")
    (cond (nat_eq c (byte ">")) (codes "\\u003e")
    (cond (nat_eq c (byte "&")) (codes "\\u0026")
    (cond (nat_eq c (byte "'")) (codes "\\u0027") (encode_utf8 c))))

abbrev pub for_script : List ℕ → List ℕ
for_script t = flat_map script_char (chars t)

abbrev pub json_of : Bool → Val → Result (List ℕ) Fault
json_of is_pretty v = tokens_of v ▸ λ ts. Ok (laid_out is_pretty ts)

abbrev pub json_encode_of : Val → Named Val → Result Val Fault
json_encode_of v given =
    or_default false as_bool (codes "pretty") given ▸ λ is_pretty.
    json_of is_pretty v ▸ λ t.
    Ok (text (for_script t) false)
