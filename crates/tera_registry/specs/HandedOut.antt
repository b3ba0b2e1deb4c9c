-- Bodies as they are handed out.
use Rattle.std.specs.Prelude.{◌≡◌, ℕ, Option, Some, slice_get, option_and_then}
use Rattle.tera_errors.specs.Site.{Name}
use Rattle.tera_code.specs.Listing.{Listing}
use Rattle.tera_code.specs.Code.{listing_of}
use Rattle.tera_code.specs.Targets.{Target, target_in}
use Rattle.tera_registry.specs.declared.body.Body.{Body}
use Rattle.tera_registry.specs.declared.code.Take.{Take}
use Rattle.tera_registry.specs.declared.body_table.Link.{Link}
use Rattle.tera_registry.specs.declared.templates.Defined.{Defined}
use Rattle.tera_components.specs.Definition.{Definition}
use Rattle.tera_registry.specs.Kept.{seen}
use Rattle.tera_registry.specs.References.{LeadsTo}
use Rattle.tera_registry.specs.Takes.{take_of}
use Rattle.tera_meaning.specs.Registry.{Entry, Registry}
use Rattle.tera_meaning.specs.Resolve.{entry_at, root}

abbrev pub code_of : Body → Listing
code_of b = b.code.now.chunk

-- a component that is handed out: what it is given, and its code
abbrev pub found_of : Defined → Definition × Listing
found_of d = (d.definition.now, code_of d.body)

-- the instruction at a position of its code takes this
abbrev pub Takes : Body → ℕ → Target → Type 0
Takes b at target = option_and_then target_in (slice_get (code_of b).code at) ≡ Some target

abbrev pub LeadsFrom : Body → Take → Link → Type 0
LeadsFrom b =
    LeadsTo (seen b.templates.now.all.items b.templates.now.prefixes.items) b.templates.now.choices

-- it is what something leads to
abbrev pub IsLink : Body → Link → Type 0
IsLink b l = (t : Take) × LeadsFrom b t l

-- what the instruction at a position takes leads there
abbrev pub Leading : Body → ℕ → Option Link → Type 0
Leading b at found =
    (target : Target) → Takes b at target
    → (l : Link) × (found ≡ Some l) × LeadsFrom b (take_of at target) l

-- it is the code of the own body of the template of a name, or of that of its root
abbrev pub IsOwnOf : Registry → Name → Listing → Type 0
IsOwnOf r name code =
    (t : Entry) → entry_at name r.templates ≡ Some t → code ≡ listing_of t.0 t.1.tree.nodes

abbrev pub IsRootOf : Registry → Name → Listing → Type 0
IsRootOf r name code =
    (t : Entry) → entry_at name r.templates ≡ Some t
    → code ≡ listing_of (root r t).0 (root r t).1.tree.nodes
