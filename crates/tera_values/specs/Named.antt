-- Things by name, in byte order of the names.
use Rattle.std.specs.Prelude.{ℕ, suc, Bool, not, Result, Ok, Err, List, [], ◌∷◌, filter, Option, Some, None, cond, map}
use Rattle.std.specs.declared.cmp.Ordering.{Ordering}
use Rattle.std.specs.Ordering.{nat_cmp, match_ordering}
use Rattle.std.specs.Cmp.Lexicographic.{slice_cmp}
use Rattle.std.specs.List.{list_any}
use Rattle.std.specs.List.Sorted.{IsStrictlySortedBy}
use Rattle.std.specs.Coded.{Coded, coded×, coded_ℕ, coded_list}
use Rattle.std.specs.Str.{bytes_eq}
use Rattle.tera_errors.specs.Site.{Name}
use Rattle.tera_value_types.specs.Val.{KeyVal, ktext}

abbrev pub Named : Type 0 → Type 0
Named A = List (Name × A)

abbrev pub name_cmp : Name → Name → Ordering
name_cmp = slice_cmp nat_cmp

-- what stands at a name
abbrev pub at_name : {A : Type 0} → Name → Named A → Option A
at_name n [] = None
at_name n (e ∷ es) = cond (bytes_eq n e.0) (Some e.1) (at_name n es)

-- a thing put at its name, in place of one that stood there
abbrev pub put : {A : Type 0} → Name → A → Named A → Named A
put n a [] = (n, a) ∷ []
put n a (e ∷ es) = match_ordering (name_cmp n e.0) ((n, a) ∷ e ∷ es) ((n, a) ∷ es) (e ∷ put n a es)

abbrev pub further : Result ℕ ℕ → Result ℕ ℕ
further (Ok at) = Ok (suc at)
further (Err at) = Err (suc at)

-- where a name stands, or where it goes
abbrev pub position : {A : Type 0} → Name → Named A → Result ℕ ℕ
position n [] = Err 0
position n (e ∷ es) = match_ordering (name_cmp n e.0) (Err 0) (Ok 0) (further (position n es))

-- all of the first, put into the second one by one
abbrev pub put_all : {A : Type 0} → Named A → Named A → Named A
put_all [] m = m
put_all (e ∷ es) m = put_all es (put e.0 e.1 m)

-- whether a name is one of these
abbrev pub is_one_of : List Name → Name → Bool
is_one_of names name = list_any (λ n. bytes_eq name n) names

-- the things with one of these names
abbrev pub with_names : {A : Type 0} → List Name → Named A → Named A
with_names names m = filter (λ e. is_one_of names e.0) m

-- the others
abbrev pub without_names : {A : Type 0} → List Name → Named A → Named A
without_names names m = filter (λ e. not (is_one_of names e.0)) m

-- the same things at text keys
abbrev pub text_keys : {A : Type 0} → Named A → List (KeyVal × A)
text_keys [] = []
text_keys (e ∷ es) = (ktext e.0, e.1) ∷ text_keys es

-- each name is below those after it, so none stands twice
abbrev pub IsAscending : {A : Type 0} → Named A → Type 0
IsAscending es = IsStrictlySortedBy name_cmp (map (λ e. e.0) es)

abbrev pub named_code : {A : Type 0} → Coded A → Coded (Named A)
named_code code = coded_list (coded× (coded_list coded_ℕ) code)
