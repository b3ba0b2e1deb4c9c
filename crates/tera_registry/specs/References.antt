-- What the references of code lead to. No public contract speaks of it.
use Rattle.std.specs.Prelude.{◌≡◌, ◌<◌, ℕ, true, false, List, length, map, slice_get, option_map, Option, Some, None, String}
use Rattle.std.specs.Coded.{codes}
use Rattle.std.specs.declared.alloc.Global.{Global}
use Rattle.std.specs.declared.collections.BTreeMap.{BTreeMap}
use Rattle.tera_errors.specs.Site.{Name}
use Rattle.tera_code.specs.Listing.{Listing}
use Rattle.tera_meaning.specs.Registry.{Registry}
use Rattle.tera_meaning.specs.Resolve.{resolve}
use Rattle.tera_registry.specs.contracts.component_table.ComponentAt as choice
use Rattle.tera_registry.specs.declared.component_table.ComponentAt.{ComponentAt}
use Rattle.tera_registry.specs.declared.code.Take.{Take}
use Rattle.tera_registry.specs.declared.body_table.LinkedBody.{LinkedBody}
use Rattle.tera_registry.specs.declared.body_table.Link.{Link}
use Rattle.tera_registry.specs.declared.body_table.Link.TheVariants as link
use Rattle.tera_registry.specs.Choices.{chosen}

-- The position of the template to which a name resolves, or none where there is none. It is said by
-- names, since no two templates share one.
abbrev pub IsPlace : Registry → Name → Option ℕ → Type 0
IsPlace r name None = option_map (λ t. t.0) (resolve r name) ≡ None
IsPlace r name (Some position) =
    (slice_get (map (λ t. t.0) r.templates) position ≡ option_map (λ t. t.0) (resolve r name))
    × (position < length r.templates)

-- what code takes leads to that template, or to what is taken of the component
abbrev pub LeadsTo : Registry → BTreeMap (String Global) ComponentAt Global → Take → Link → Type 0
LeadsTo r choices take (link.Template position) =
    (take.is_component ≡ false) × IsPlace r take.name position
LeadsTo r choices take (link.Component taken) =
    (take.is_component ≡ true) × (chosen choices take.name ≡ taken)

abbrev pub place_of : Link → Option ℕ
place_of (link.Template position) = position
place_of (link.Component taken) = None

abbrev pub choice_of : Link → Option ComponentAt
choice_of (link.Template position) = None
choice_of (link.Component taken) = taken

-- the first so many of what code takes lead there
pub record AreLinks (r : Registry) (choices : BTreeMap (String Global) ComponentAt Global)
    (takes : List Take) (links : List Link) (many : ℕ) : Type 0 where
  pub as_many : length links ≡ many
  pub those : (i : ℕ) (l : Link) (t : Take) → slice_get links i ≡ Some l
      → slice_get takes i ≡ Some t → LeadsTo r choices t l

-- the code of an entry
abbrev pub chunk_of : LinkedBody → Listing
chunk_of e = e.code.value.chunk

-- all that its code takes leads to what stands at its number
abbrev pub IsLinked : Registry → BTreeMap (String Global) ComponentAt Global → LinkedBody → Type 0
IsLinked r choices e =
    AreLinks r choices e.code.value.takes.items e.links.items (length e.code.value.takes.items)

IsPlace-prop : (r : Registry) (name : Name) (position : Option ℕ) → IsProp (IsPlace r name position)
IsPlace-prop r name None = Prim.hlevel codes
IsPlace-prop r name (Some position) = Prim.hlevel codes

LeadsTo-prop : (r : Registry) (choices : BTreeMap (String Global) ComponentAt Global) (take : Take)
    (to : Link) → IsProp (LeadsTo r choices take to)
LeadsTo-prop r choices take (link.Template position) = Prim.hlevel (codes, IsPlace-prop)
LeadsTo-prop r choices take (link.Component taken) =
    Prim.hlevel (codes, choice.the_row.coded)

pub IsLinked-prop : (r : Registry) (choices : BTreeMap (String Global) ComponentAt Global)
    (e : LinkedBody) → IsProp (IsLinked r choices e)
IsLinked-prop r choices e = Prim.hlevel (codes, LeadsTo-prop)
