-- What definitions see of all templates.
use Rattle.std.specs.Prelude.{◌≡◌, ℕ, Bool, true, false, List, [], ◌∷◌, map, string_bytes, Option, Some, None, option_map}
use Rattle.tera_errors.specs.Site.{Text, Name}
use Rattle.tera_values.specs.Named.{Named}
use Rattle.tera_meaning.specs.Registry.{Template, Entry, Registry}
use Rattle.tera_meaning.specs.Resolve.{resolve}
use Rattle.tera_meaning.specs.Lineage.{Definer}
use Rattle.tera_meaning.specs.Components.{Component}
use Rattle.tera_components.specs.Definition.{definition_of}
use Rattle.tera_code.specs.Code.{listing_of}
use Rattle.tera_registry.specs.declared.templates.Templates.{Templates}
use Rattle.tera_registry.specs.declared.templates.FoundTemplate.{FoundTemplate}
use Rattle.tera_registry.specs.declared.templates.Start.{Start}
use Rattle.tera_registry.specs.declared.templates.Definers.{Definers}
use Rattle.tera_registry.specs.declared.templates.Definer.{Definer as Nearest}
use Rattle.tera_registry.specs.declared.templates.Defined.{Defined}
use Rattle.tera_registry.specs.Kept.{entries_of, seen}
use Rattle.tera_registry.specs.HandedOut.{code_of}
use Rattle.tera_registry.specs.Numbers.{from_number}

abbrev pub templates_of : Templates → Named Template
templates_of t = entries_of t.all.items

abbrev pub prefixes_of : Templates → List Text
prefixes_of t = map string_bytes t.prefixes.items

abbrev pub is_empty : {A : Type 0} → List A → Bool
is_empty [] = true
is_empty (a ∷ as') = false

-- a registry with these templates and prefixes, and else as it was
abbrev pub with_templates : Registry → Templates → Registry
with_templates r t = record r { templates = templates_of t; prefixes = prefixes_of t }

-- what is found is the template, by its name
pub record Leads (r : Registry) (name : Name) (found : FoundTemplate) : Type 0 where
  pub entry : Entry
  pub resolves : resolve r name ≡ Some entry
  pub named : found.name.now ≡ entry.0
  pub among : with_templates r found.templates.now ≡ r

-- what is found under a name
abbrev pub Finds : Registry → Name → Option FoundTemplate → Type 0
Finds r name None = resolve r name ≡ None
Finds r name (Some found) = Leads r name found

-- templates and prefixes alone
abbrev pub registry_in : Templates → Registry
registry_in t = seen t.all.items t.prefixes.items

abbrev pub AreAmongStarts : Registry → Option Start → Type 0
AreAmongStarts r None = Unit {0}
AreAmongStarts r (Some s) = with_templates r s.templates.now ≡ r

abbrev pub started : Option Start → List Definer
started None = []
started (Some s) = from_number (registry_in s.templates.now) s.number

-- those who define a block, nearest first
abbrev pub definers_of : Definers → List Definer
definers_of ds = started ds.start

-- the number of the body of the first of them
abbrev pub first_number_of : Definers → Option ℕ
first_number_of ds = option_map (λ s. s.number) ds.start

-- the templates among which they stand are those of the registry
abbrev pub AreAmong : Registry → Definers → Type 0
AreAmong r ds = AreAmongStarts r ds.start

-- the first of those who define a block, with its code, and those above it
pub record IsNearest (ds : List Definer) (nearest : Nearest) : Type 0 where
  pub definer : Definer
  pub is : ds ≡ definer ∷ definers_of nearest.above
  pub code : code_of nearest.body ≡ listing_of definer.file definer.body

-- the first of those who define a block, if there is one
abbrev pub AreNext : List Definer → Option Nearest → Type 0
AreNext ds None = ds ≡ []
AreNext ds (Some nearest) = IsNearest ds nearest

-- what is found of a component is what its signature says, and the code of its body in the text of
-- its template
pub record IsKept (c : Component) (found : Defined) : Type 0 where
  pub given : found.definition.now ≡ definition_of c.signature
  pub code : code_of found.body ≡ listing_of c.file c.body

-- what is found of the component of a name
abbrev pub IsDefined : Option Component → Option Defined → Type 0
IsDefined c None = c ≡ None
IsDefined None (Some found) = ⊥
IsDefined (Some c) (Some found) = IsKept c found
