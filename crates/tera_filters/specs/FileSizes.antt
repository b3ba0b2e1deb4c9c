-- Counts of bytes, as people read them.
use Rattle.std.specs.Prelude.{ℕ, ◌+◌, ◌*◌, ◌/◌, ◌%◌, ℤ, pos, negsuc, Bool, true, false, if◌then◌else◌, nat_eq, nat_lt, List, [], ◌∷◌, ◌++◌, Result, Ok, Err, codes, decimal}
use Rattle.std.specs.Char.{encode_utf8}
use Rattle.tera_errors.specs.Fault.{Fault, invalid_argument}
use Rattle.tera_values.specs.Val.{Val, text}
use Rattle.tera_values.specs.Named.{Named}
use Rattle.tera_built_ins.specs.Arguments.{◌▸◌, as_bool, as_integer, or_default}

-- so many of a unit make up the next
abbrev pub base : Bool → ℕ
base false = 1000
base true = 1024

-- the first letters of the units behind the byte, all but the last
abbrev pub prefixes : Bool → List ℕ
prefixes false = codes "kMGTPEZ"
prefixes true = codes "KMGTPEZ"

abbrev pub last_prefix : List ℕ
last_prefix = codes "Y"

abbrev pub unit : Bool → List ℕ → List ℕ
unit false prefix = prefix ++ codes "B"
unit true prefix = prefix ++ codes "iB"

-- how many hundredths of a unit of so many bytes there are; half of one counts as one
abbrev pub hundredths : ℕ → ℕ → ℕ
hundredths size n = (n * 100 + size / 2) / size

abbrev pub two_digits : ℕ → List ℕ
two_digits h = (if nat_lt h 10 then codes "0" else []) ++ decimal h

-- the whole, and the hundredths where there are some
abbrev pub amount : ℕ → List ℕ
amount h =
    decimal (h / 100) ++ (if nat_eq (h % 100) 0 then [] else codes "." ++ two_digits (h % 100))

-- so many hundredths of a unit
abbrev pub measured : Bool → ℕ → List ℕ → List ℕ
measured binary h prefix = amount h ++ codes " " ++ unit binary prefix

-- In the first unit of which there are fewer than make up the next; the last takes all that is
-- larger. The first of these units has so many bytes.
abbrev pub in_first_unit : Bool → ℕ → ℕ → List ℕ → List ℕ
in_first_unit binary n size [] = measured binary (hundredths size n) last_prefix
in_first_unit binary n size (prefix ∷ later) =
    if nat_lt (hundredths size n) (base binary * 100)
    then measured binary (hundredths size n) (encode_utf8 prefix)
    else in_first_unit binary n (size * base binary) later

abbrev pub file_size : Bool → ℕ → List ℕ
file_size binary n =
    if nat_lt n (base binary) then decimal n ++ codes " B"
    else in_first_unit binary n (base binary) (prefixes binary)

abbrev pub natural : ℤ → Result ℕ Fault
natural (pos n) = Ok n
natural (negsuc n) = Err invalid_argument

abbrev pub filesizeformat_of : Val → Named Val → Result Val Fault
filesizeformat_of v given =
    as_integer v ▸ λ z.
    natural z ▸ λ n.
    or_default false as_bool (codes "binary") given ▸ λ binary.
    Ok (text (file_size binary n) false)
