-- Texts as they stand in URLs.
use Rattle.std.specs.Prelude.{ℕ, Bool, ◌||◌, nat_eq, if◌then◌else◌, List, [], ◌∷◌, flat_map, Result, codes}
use Rattle.std.specs.Char.{is_ascii_alphanumeric}
use Rattle.std.specs.List.{list_any}
use Rattle.percent_encoding.specs.Percent.{percent_encode_byte}
use Rattle.tera_errors.specs.Fault.{Fault}
use Rattle.tera_values.specs.Val.{Val}
use Rattle.tera_filters.specs.Texts.{with_its_mark}

-- an ASCII letter or digit, or one of the others that stand for themselves
abbrev pub is_plain : List ℕ → ℕ → Bool
is_plain others b = is_ascii_alphanumeric b || list_any (nat_eq b) others

abbrev pub url_byte : List ℕ → ℕ → List ℕ
url_byte others b = if is_plain others b then b ∷ [] else percent_encode_byte b

-- each byte that does not stand for itself as a percent sign and two digits
abbrev pub urlencoded : List ℕ → List ℕ → List ℕ
urlencoded others t = flat_map (url_byte others) t

abbrev pub urlencode_of : Val → Result Val Fault
urlencode_of = with_its_mark (urlencoded (codes "/-_.~"))

abbrev pub urlencode_strict_of : Val → Result Val Fault
urlencode_strict_of = with_its_mark (urlencoded [])
