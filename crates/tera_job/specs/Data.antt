-- What data gives to templates.
use Rattle.std.specs.Prelude.{◌≡◌, List, [], ◌∷◌, codes, cond, false, nat_eq, Option, Some, None, Result, Ok, Err}
use Rattle.std.specs.List.{ends_with}
use Rattle.tera.specs.Site.{Text}
use Rattle.tera.specs.Fault.{Fault, message}
use Rattle.tera.specs.Val.{Val, text}
use Rattle.tera.specs.Named.{Named, put, put_all}
use Rattle.tera_data.specs.declared.number.Floats.{Floats}
use Rattle.tera_data.specs.Values.{value_in, Follows}
use Rattle.tera_data.specs.Contexts.{context_in}
use Rattle.tera_data.specs.Csv.{csv_in}
use Rattle.tera_data.specs.Toml.{TomlIn, TomlContextIn}
use Rattle.tera_job.specs.declared.datum.DataForm.{DataForm}
use Rattle.tera_job.specs.declared.datum.DataForm.TheVariants as written
use Rattle.tera_job.specs.declared.datum.Datum.{Datum}
use Rattle.tera_job.specs.declared.datum.Datum.TheVariants as datum

-- the form of a file, by the last suffix of its name
abbrev pub form_of_file : Text → Option DataForm
form_of_file path =
    cond (ends_with nat_eq path (codes ".json")) (Some written.Json)
    (cond (ends_with nat_eq path (codes ".toml")) (Some written.Toml)
    (cond (ends_with nat_eq path (codes ".csv")) (Some written.Csv) None))

-- the members of a file, by name; a line for each form, and records of CSV have no names
abbrev pub MembersIn : Floats → DataForm → Text → Result (Named Val) Fault → Type 0
MembersIn floats written.Json t r = r ≡ context_in floats t
MembersIn floats written.Toml t r = TomlContextIn floats t r
MembersIn floats written.Csv t r = r ≡ Err message

-- the value that a file is; a line for each form
abbrev pub ValueIn : Floats → DataForm → Text → Result Val Fault → Type 0
ValueIn floats written.Json t r = r ≡ value_in floats t
ValueIn floats written.Toml t r = TomlIn floats t r
ValueIn floats written.Csv t r = r ≡ csv_in t

-- what a datum may give over what is there, name by name
abbrev pub Lays : Floats → Datum → Named Val → Result (Named Val) Fault → Type 0
Lays floats (datum.Members form t) there =
    Follows (MembersIn floats form t.now) (λ new r. r ≡ Ok (put_all new there))
Lays floats (datum.Whole name form t) there =
    Follows (ValueIn floats form t.now) (λ v r. r ≡ Ok (put name.now v there))
Lays floats (datum.Words name t) there = λ r. r ≡ Ok (put name.now (text t.now false) there)

-- all of them, each over what those before it gave; the first that can't be read ends it
abbrev pub LaysAll : Floats → Named Val → List Datum → Result (Named Val) Fault → Type 0
LaysAll floats there [] r = r ≡ Ok there
LaysAll floats there (d ∷ ds) r =
    Follows (Lays floats d there) (λ next. LaysAll floats next ds) r

-- the context that data gives; more than one only where floats of TOML become texts
abbrev pub IsContextOf : Floats → List Datum → Result (Named Val) Fault → Type 0
IsContextOf floats ds = LaysAll floats [] ds

-- none of them is refused
abbrev pub AreReadable : Floats → List Datum → Type 0
AreReadable floats ds = (context : Named Val) × IsContextOf floats ds (Ok context)
