-- No text that data gives is marked safe.
use Rattle.std.proofs.Common.{◌≡◌, inl, inr, Bool, true, false, cond, not, nat_eq, List, [], ◌∷◌, ◌++◌, length, flat_map, Option, Some, None, unwrap_or, Result, Ok, Err, refl, sym, subst, Less, Ordering, Equal, Greater}
use Rattle.std.specs.Ordering.{match_ordering}
use Rattle.std.specs.Str.{bytes_eq}
use Rattle.std.specs.Prelude.{ℤ}
use Rattle.csv.specs.Reading.{default_config, records, strip_bom}
use Rattle.json.specs.Json.{Json, null, boolean, number, string, array as list, object, Items, no_items, item, Members, no_members, member}
use Rattle.toml.specs.Data as toml
use Rattle.toml.specs.Data.{Data}
use Rattle.toml_datetime.specs.Text.{datetime_text}
use Rattle.tera.specs.Site.{Name, Text}
use Rattle.tera.specs.Fault.{Fault, message}
use Rattle.tera.specs.Val.{Val, vals, entries, text, int, bool, array as val_array, map as val_map}
use Rattle.tera.specs.Named.{Named, at_name, name_cmp, put, put_all, is_one_of, without_names, text_keys}
use Rattle.tera.specs.Sources.{safe_texts, items_safe_texts, entries_safe_texts}
use Rattle.tera.specs.Renderings.{values_named}
use Rattle.tera_data.specs.declared.number.Floats.{Floats}
use Rattle.tera_data.specs.declared.number.Floats.TheVariants as floats
use Rattle.tera_data.specs.Numbers.{integer_of, of_other, of_number}
use Rattle.tera_data.specs.Values.{then, once, of_json, of_items, of_members, read, value_in, Follows}
use Rattle.tera_data.specs.Contexts.{named, of_object, context_in}
use Rattle.tera_data.specs.Csv.{under, of_record, of_records, of_rows, csv_in}
use Rattle.tera_data.specs.Toml.{OfToml, OfItems, OfMembers, OfTable, TomlIn, TomlContextIn, read_toml}
use Rattle.tera_job.specs.Data.{MembersIn, ValueIn, Lays, LaysAll}
use Rattle.tera_job.specs.Laws.{DataIsUnsafe}
use Rattle.tera_job.specs.declared.datum.DataForm.{DataForm}
use Rattle.tera_job.specs.declared.datum.DataForm.TheVariants as written
use Rattle.tera_job.specs.declared.datum.Datum.{Datum}
use Rattle.tera_job.specs.declared.datum.Datum.TheVariants as datum

-- no text in it is safe
abbrev IsUnsafe : Val → Type 0
IsUnsafe v = safe_texts v ≡ []

abbrev AllUnsafe : List Val → Type 0
AllUnsafe [] = Unit {0}
AllUnsafe (v ∷ vs) = IsUnsafe v × AllUnsafe vs

abbrev EachUnsafe : Named Val → Type 0
EachUnsafe [] = Unit {0}
EachUnsafe (e ∷ es) = IsUnsafe e.1 × EachUnsafe es

-- where there is an answer
abbrev Holds : {A : Type 0} → (A → Type 0) → Result A Fault → Type 0
Holds P (Ok a) = P a
Holds P (Err fault) = Unit {0}

-- where one may be meant
abbrev Means : {A : Type 0} → (A → Type 0) → (Result A Fault → Type 0) → Type 0
Means {A} P There = (a : A) → There (Ok a) → P a

abbrev FoundUnsafe : Option Val → Type 0
FoundUnsafe None = Unit {0}
FoundUnsafe (Some v) = IsUnsafe v

follows : {A B : Type 0} (P : A → Type 0) (Q : B → Type 0) (r : Result A Fault) (next : A → Result B Fault) → Holds P r → ((a : A) → P a → Holds Q (next a)) → Holds Q (then r next)
follows P Q (Ok a) next h k = k a h
follows P Q (Err fault) next h k = tt

means : {A : Type 0} (P : A → Type 0) (r : Result A Fault) → Holds P r → Means P (λ x. x ≡ r)
means P r h a e = subst (Holds P) (sym e) h

follows_one : {A B : Type 0} (P : A → Type 0) (Q : B → Type 0) (There : Result A Fault → Type 0) (Next : A → Result B Fault → Type 0) → Means P There → ((a : A) → P a → Means Q (Next a)) → Means Q (Follows There Next)
follows_one P Q There Next h k b (inl (f, there, is)) = absurd (cc)
follows_one P Q There Next h k b (inr (a, there, next)) = k a (h a there) b next

none-joined : (ts us : List Text) → ts ≡ [] → us ≡ [] → ts ++ us ≡ []
none-joined ts us h k = rw (h, k) refl

-- values in a list, in an array, in a context and in a map
items-unsafe : (vs : List Val) → AllUnsafe vs → items_safe_texts (vals vs) ≡ []
items-unsafe [] h = refl
items-unsafe (v ∷ vs) h = none-joined (safe_texts v) (items_safe_texts (vals vs)) h.0 (items-unsafe vs h.1)

values-unsafe : (es : Named Val) → EachUnsafe es → flat_map safe_texts (values_named es) ≡ []
values-unsafe [] h = refl
values-unsafe (e ∷ es) h = none-joined (safe_texts e.1) (flat_map safe_texts (values_named es)) h.0 (values-unsafe es h.1)

entries-unsafe : (es : Named Val) → EachUnsafe es → entries_safe_texts (entries (text_keys es)) ≡ []
entries-unsafe [] h = refl
entries-unsafe (e ∷ es) h = none-joined (safe_texts e.1) (entries_safe_texts (entries (text_keys es))) h.0 (entries-unsafe es h.1)

put-unsafe : (n : Name) (v : Val) (es : Named Val) → IsUnsafe v → EachUnsafe es → EachUnsafe (put n v es)
put-unsafe n v [] h k = (h, tt)
put-unsafe n v (e ∷ es) h k = by (name_cmp n e.0) (put-unsafe n v es h k.1)
  where
    by : (o : Ordering) → EachUnsafe (put n v es) → EachUnsafe (match_ordering o ((n, v) ∷ e ∷ es) ((n, v) ∷ es) (e ∷ put n v es))
    by Less rest = (h, k)
    by Equal rest = (h, k.1)
    by Greater rest = (k.0, rest)

put_all-unsafe : (new old : Named Val) → EachUnsafe new → EachUnsafe old → EachUnsafe (put_all new old)
put_all-unsafe [] old h k = k
put_all-unsafe (e ∷ es) old h k = put_all-unsafe es (put e.0 e.1 old) h.1 (put-unsafe e.0 e.1 old h.0 k)

found-unsafe : (n : Name) (es : Named Val) → EachUnsafe es → FoundUnsafe (at_name n es)
found-unsafe n [] h = tt
found-unsafe n (e ∷ es) h = by (bytes_eq n e.0) (found-unsafe n es h.1)
  where
    by : (b : Bool) → FoundUnsafe (at_name n es) → FoundUnsafe (cond b (Some e.1) (at_name n es))
    by true rest = h.0
    by false rest = rest

or-unsafe : (o : Option Val) (v : Val) → FoundUnsafe o → IsUnsafe v → IsUnsafe (unwrap_or o v)
or-unsafe None v h k = k
or-unsafe (Some w) v h k = h

without-unsafe : (names : List Name) (es : Named Val) → EachUnsafe es → EachUnsafe (without_names names es)
without-unsafe names [] h = tt
without-unsafe names (e ∷ es) h = by (not (is_one_of names e.0)) (without-unsafe names es h.1)
  where
    by : (b : Bool) → EachUnsafe (without_names names es) → EachUnsafe (cond b (e ∷ without_names names es) (without_names names es))
    by true rest = (h.0, rest)
    by false rest = rest

once-unsafe : (ms : Named Val) → EachUnsafe ms → EachUnsafe (once ms)
once-unsafe [] h = tt
once-unsafe (m ∷ ms) h =
    let rest = once-unsafe ms h.1 in
    (or-unsafe (at_name m.0 (once ms)) m.1 (found-unsafe m.0 (once ms) rest) h.0, without-unsafe (m.0 ∷ []) (once ms) rest)

-- values of JSON
number-unsafe : (f : Floats) (t : Text) (o : Option ℤ) → Holds IsUnsafe (of_number f t o)
number-unsafe f t (Some z) = refl
number-unsafe floats.Refuse t None = tt
number-unsafe floats.Text t None = refl

mutual
  json-unsafe : (f : Floats) (j : Json) → Holds IsUnsafe (of_json f j)
  json-unsafe f null = refl
  json-unsafe f (boolean b) = refl
  json-unsafe f (number t) = number-unsafe f t (integer_of t)
  json-unsafe f (string t) = refl
  json-unsafe f (list js) = follows AllUnsafe IsUnsafe (of_items f js) _ (json_items-unsafe f js) items-unsafe
  json-unsafe f (object ms) = follows EachUnsafe IsUnsafe (of_members f ms) _ (json_members-unsafe f ms) (λ vs h. entries-unsafe (once vs) (once-unsafe vs h))

  json_items-unsafe : (f : Floats) (js : Items) → Holds AllUnsafe (of_items f js)
  json_items-unsafe f no_items = tt
  json_items-unsafe f (item j js) =
      follows IsUnsafe AllUnsafe (of_json f j) _ (json-unsafe f j) (λ v h. follows AllUnsafe AllUnsafe (of_items f js) _ (json_items-unsafe f js) (λ vs k. (h, k)))

  json_members-unsafe : (f : Floats) (ms : Members) → Holds EachUnsafe (of_members f ms)
  json_members-unsafe f no_members = tt
  json_members-unsafe f (member n j ms) =
      follows IsUnsafe EachUnsafe (of_json f j) _ (json-unsafe f j) (λ v h. follows EachUnsafe EachUnsafe (of_members f ms) _ (json_members-unsafe f ms) (λ vs k. (h, k)))

always : {A : Type 0} (r : Result A Fault) → Holds (λ _. Unit {0}) r
always (Ok a) = tt
always (Err fault) = tt

named-unsafe : (f : Floats) (ms : Members) → Holds EachUnsafe (named f ms)
named-unsafe f ms = follows EachUnsafe EachUnsafe (of_members f ms) _ (json_members-unsafe f ms) (λ vs h. put_all-unsafe vs [] h tt)

object-unsafe : (f : Floats) (j : Json) → Holds EachUnsafe (of_object f j)
object-unsafe f null = tt
object-unsafe f (boolean b) = tt
object-unsafe f (number t) = tt
object-unsafe f (string t) = tt
object-unsafe f (list js) = tt
object-unsafe f (object ms) = named-unsafe f ms

-- values of CSV
under-unsafe : (names : List Name) (fields : List Text) → EachUnsafe (under names fields)
under-unsafe [] fields = tt
under-unsafe (n ∷ names) [] = tt
under-unsafe (n ∷ names) (t ∷ fields) = (refl, under-unsafe names fields)

record-unsafe : (names : List Name) (fields : List Text) → Holds IsUnsafe (of_record names fields)
record-unsafe names fields = by (nat_eq (length fields) (length names)) (Ok _) (entries-unsafe (once (under names fields)) (once-unsafe (under names fields) (under-unsafe names fields)))
  where
    by : (b : Bool) (r : Result Val Fault) → Holds IsUnsafe r → Holds IsUnsafe (cond b r (Err message))
    by true r h = h
    by false r h = tt

records-unsafe : (names : List Name) (rows : List (List Text)) → Holds AllUnsafe (of_records names rows)
records-unsafe names [] = tt
records-unsafe names (fields ∷ rest) =
    follows IsUnsafe AllUnsafe (of_record names fields) _ (record-unsafe names fields) (λ v h. follows AllUnsafe AllUnsafe (of_records names rest) _ (records-unsafe names rest) (λ vs k. (h, k)))

rows-unsafe : (rows : List (List Text)) → Holds IsUnsafe (of_rows rows)
rows-unsafe [] = refl
rows-unsafe (names ∷ rest) = follows AllUnsafe IsUnsafe (of_records names rest) _ (records-unsafe names rest) items-unsafe

-- values of TOML
float-unsafe : (f : Floats) (t : Text) → Holds IsUnsafe (of_other f t)
float-unsafe floats.Refuse t = tt
float-unsafe floats.Text t = refl

mutual
  toml-unsafe : (f : Floats) (d : Data) → Means IsUnsafe (OfToml f d)
  toml-unsafe f (toml.string t) = means IsUnsafe (Ok (text t false)) refl
  toml-unsafe f (toml.integer z) = means IsUnsafe (Ok (int z)) refl
  toml-unsafe f (toml.float x) = λ v h. means IsUnsafe (of_other f h.0) (float-unsafe f h.0) v h.2
  toml-unsafe f (toml.boolean b) = means IsUnsafe (Ok (bool b)) refl
  toml-unsafe f (toml.datetime when) = means IsUnsafe (Ok (text (datetime_text when) false)) refl
  toml-unsafe f (toml.array ds) =
      follows_one AllUnsafe IsUnsafe (OfItems f ds) (λ vs a. a ≡ Ok (val_array (vals vs))) (toml_items-unsafe f ds) (λ vs h. means IsUnsafe (Ok (val_array (vals vs))) (items-unsafe vs h))
  toml-unsafe f (toml.table ms) =
      follows_one EachUnsafe IsUnsafe (OfMembers f ms) (λ vs a. a ≡ Ok (val_map (entries (text_keys (once vs))))) (toml_members-unsafe f ms) (λ vs h. means IsUnsafe (Ok (val_map (entries (text_keys (once vs))))) (entries-unsafe (once vs) (once-unsafe vs h)))

  toml_items-unsafe : (f : Floats) (ds : toml.Items) → Means AllUnsafe (OfItems f ds)
  toml_items-unsafe f toml.no_items = means AllUnsafe (Ok []) tt
  toml_items-unsafe f (toml.item d ds) =
      follows_one IsUnsafe AllUnsafe (OfToml f d) (λ v. Follows (OfItems f ds) (λ vs a. a ≡ Ok (v ∷ vs))) (toml-unsafe f d)
      (λ v h. follows_one AllUnsafe AllUnsafe (OfItems f ds) (λ vs a. a ≡ Ok (v ∷ vs)) (toml_items-unsafe f ds) (λ vs k. means AllUnsafe (Ok (v ∷ vs)) (h, k)))

  toml_members-unsafe : (f : Floats) (ms : toml.Members) → Means EachUnsafe (OfMembers f ms)
  toml_members-unsafe f toml.no_members = means EachUnsafe (Ok []) tt
  toml_members-unsafe f (toml.member n d ms) =
      follows_one IsUnsafe EachUnsafe (OfToml f d) (λ v. Follows (OfMembers f ms) (λ vs a. a ≡ Ok ((n, v) ∷ vs))) (toml-unsafe f d)
      (λ v h. follows_one EachUnsafe EachUnsafe (OfMembers f ms) (λ vs a. a ≡ Ok ((n, v) ∷ vs)) (toml_members-unsafe f ms) (λ vs k. means EachUnsafe (Ok ((n, v) ∷ vs)) (h, k)))

toml_value-unsafe : (f : Floats) (t : Text) → Means IsUnsafe (TomlIn f t)
toml_value-unsafe f t = follows_one (λ ms. Unit {0}) IsUnsafe (λ ms. ms ≡ read_toml t) (λ ms. OfToml f (toml.table ms)) (λ ms there. tt) (λ ms u. toml-unsafe f (toml.table ms))

toml_context-unsafe : (f : Floats) (t : Text) → Means EachUnsafe (TomlContextIn f t)
toml_context-unsafe f t =
    follows_one (λ ms. Unit {0}) EachUnsafe (λ ms. ms ≡ read_toml t) (OfTable f) (λ ms there. tt)
    (λ ms u. follows_one EachUnsafe EachUnsafe (OfMembers f ms) (λ vs a. a ≡ Ok (put_all vs [])) (toml_members-unsafe f ms) (λ vs h. means EachUnsafe (Ok (put_all vs [])) (put_all-unsafe vs [] h tt)))

-- what data gives
members-unsafe : (f : Floats) (form : DataForm) (t : Text) → Means EachUnsafe (MembersIn f form t)
members-unsafe f written.Json t = means EachUnsafe (context_in f t) (follows (λ _. Unit {0}) EachUnsafe (read t) _ (always (read t)) (λ j h. object-unsafe f j))
members-unsafe f written.Toml t = toml_context-unsafe f t
members-unsafe f written.Csv t = means EachUnsafe (Err message) tt

value-unsafe : (f : Floats) (form : DataForm) (t : Text) → Means IsUnsafe (ValueIn f form t)
value-unsafe f written.Json t = means IsUnsafe (value_in f t) (follows (λ _. Unit {0}) IsUnsafe (read t) _ (always (read t)) (λ j h. json-unsafe f j))
value-unsafe f written.Toml t = toml_value-unsafe f t
value-unsafe f written.Csv t = means IsUnsafe (csv_in t) (rows-unsafe (records default_config (strip_bom t)))

lays-unsafe : (f : Floats) (d : Datum) (there : Named Val) → EachUnsafe there → Means EachUnsafe (Lays f d there)
lays-unsafe f (datum.Members form t) there h =
    follows_one EachUnsafe EachUnsafe (MembersIn f form t.now) (λ new r. r ≡ Ok (put_all new there)) (members-unsafe f form t.now) (λ new k. means EachUnsafe (Ok (put_all new there)) (put_all-unsafe new there k h))
lays-unsafe f (datum.Whole name form t) there h =
    follows_one IsUnsafe EachUnsafe (ValueIn f form t.now) (λ v r. r ≡ Ok (put name.now v there)) (value-unsafe f form t.now) (λ v k. means EachUnsafe (Ok (put name.now v there)) (put-unsafe name.now v there k h))
lays-unsafe f (datum.Words name t) there h = means EachUnsafe (Ok (put name.now (text t.now false) there)) (put-unsafe name.now (text t.now false) there refl h)

all-unsafe : (f : Floats) (there : Named Val) (ds : List Datum) → EachUnsafe there → Means EachUnsafe (LaysAll f there ds)
all-unsafe f there [] h = means EachUnsafe (Ok there) h
all-unsafe f there (d ∷ ds) h = follows_one EachUnsafe EachUnsafe (Lays f d there) (λ next. LaysAll f next ds) (lays-unsafe f d there h) (λ next k. all-unsafe f next ds k)

pub data_is_unsafe : DataIsUnsafe
data_is_unsafe f ds context is = values-unsafe context (all-unsafe f [] ds tt context is)
