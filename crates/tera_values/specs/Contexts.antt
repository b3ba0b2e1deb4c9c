-- What holds of values by name.
use Rattle.std.specs.Prelude.{◌≡◌, ◌≢◌, Some}
use Rattle.tera_errors.specs.Site.{Name}
use Rattle.tera_value_types.specs.Val.{Val}
use Rattle.tera_values.specs.Named.{Named, at_name, put, IsAscending}

-- a name finds what was put at it last
abbrev pub NamedIsFound : Type 0
NamedIsFound = (es : Named Val) (n : Name) (v : Val) → at_name n (put n v es) ≡ Some v

-- and every other name what it found before
abbrev pub OtherNamesAreKept : Type 0
OtherNamesAreKept =
    (es : Named Val) (n m : Name) (v : Val) → m ≢ n → at_name m (put n v es) ≡ at_name m es

-- and names in byte order stay so
abbrev pub PutKeepsOrder : Type 0
PutKeepsOrder = (es : Named Val) (n : Name) (v : Val) → IsAscending es → IsAscending (put n v es)
