-- What holds of the definitions.
use Rattle.std.specs.Prelude.{◌≡◌, ◌≢◌, List, [], ◌∷◌, ◌++◌, Some, None, length, map, Result}
use Rattle.tera_errors.specs.Prelude.{Fault, Name, Text}
use Rattle.tera_value_types.specs.Val.{Val}
use Rattle.tera_values.specs.Named.{Named, at_name}
use Rattle.tera_data.specs.Values.{once}
use Rattle.tera_data.specs.Toml.{TomlIn}
use Rattle.tera_data.specs.Csv.{under}
use Rattle.tera_data.specs.declared.number.Floats.TheVariants as floats

abbrev pub names : Named Val → List Name
names ms = map (λ m. m.0) ms

-- the last member of a name gives its value
abbrev pub LastMemberWins : Type 0
LastMemberWins =
    (ms : Named Val) (n : Name) (v : Val) → at_name n (once (ms ++ (n, v) ∷ [])) ≡ Some v

-- a member whose name is new goes last
abbrev pub NewNameGoesLast : Type 0
NewNameGoesLast =
    (ms : Named Val) (n : Name) (v : Val) → at_name n (once ms) ≡ None
    → once (ms ++ (n, v) ∷ []) ≡ once ms ++ (n, v) ∷ []

-- and one whose name is there moves no name
abbrev pub KnownNamesStay : Type 0
KnownNamesStay =
    (ms : Named Val) (n : Name) (v : Val) → at_name n (once ms) ≢ None
    → names (once (ms ++ (n, v) ∷ [])) ≡ names (once ms)

-- where floats are refused, a text of TOML has one answer
abbrev pub TomlHasOneAnswer : Type 0
TomlHasOneAnswer =
    (t : Text) (r s : Result Val Fault) → TomlIn floats.Refuse t r → TomlIn floats.Refuse t s → r ≡ s

-- the fields of a record of CSV stand under the names of the first one, in their order
abbrev pub FieldsStandUnderNames : Type 0
FieldsStandUnderNames =
    (ns : List Name) (fields : List Text) → length fields ≡ length ns → names (under ns fields) ≡ ns
