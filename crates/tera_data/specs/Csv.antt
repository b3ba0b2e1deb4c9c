-- What the records of a text of CSV are for a template.
use Rattle.std.specs.Prelude.{List, [], ◌∷◌, length, nat_eq, false, cond, Result, Ok, Err}
use Rattle.csv.specs.Reading.{default_config, records, strip_bom}
use Rattle.tera_errors.specs.Prelude.{Fault, message, Name, Text}
use Rattle.tera_value_types.specs.Val.{Val, text, array, map, vals, entries}
use Rattle.tera_values.specs.Named.{Named, put, text_keys}
use Rattle.tera_data.specs.Values.{once, then}

-- each name, and the field that stands under it
abbrev pub under : List Name → List Text → Named Val
under [] fields = []
under (n ∷ names) [] = []
under (n ∷ names) (t ∷ fields) = (n, text t false) ∷ under names fields

-- a record that has a field for each name, as a map
abbrev pub of_record : List Name → List Text → Result Val Fault
of_record names fields =
    cond (nat_eq (length fields) (length names))
    (Ok (map (entries (text_keys (once (under names fields)))))) (Err message)

-- the records' values, in their order
abbrev pub of_records : List Name → List (List Text) → Result (List Val) Fault
of_records names [] = Ok []
of_records names (fields ∷ rest) =
    then (of_record names fields) (λ v. then (of_records names rest) (λ vs. Ok (v ∷ vs)))

-- the first record has the names
abbrev pub of_rows : List (List Text) → Result Val Fault
of_rows [] = Ok (array (vals []))
of_rows (names ∷ rest) = then (of_records names rest) (λ vs. Ok (array (vals vs)))

-- the value of a template that a text spells
abbrev pub csv_in : Text → Result Val Fault
csv_in t = of_rows (records default_config (strip_bom t))

-- what is meant, put over what is there at a name
abbrev pub at : Name → Named Val → Result Val Fault → Result (Named Val) Fault
at n old meant = then meant (λ v. Ok (put n v old))
