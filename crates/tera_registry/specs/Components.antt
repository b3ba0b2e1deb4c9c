-- Components as templates keep them.
use Rattle.std.specs.Prelude.{List, [], ◌∷◌, map, bytes_eq, Option, Some, None, if◌then◌else◌}
use Rattle.tera_errors.specs.Site.{Name}
use Rattle.tera_syntax_tree.specs.Tree.{Signature, Nodes, Definitions}
use Rattle.tera_components.specs.Definition.{Definition, definition_of}
use Rattle.tera_code.specs.Listing.{Listing}
use Rattle.tera_code.specs.Code.{listing_of}
use Rattle.tera_registry.specs.declared.code.TemplateBlock.{TemplateBlock}
use Rattle.tera_registry.specs.declared.components.Component.{Component}

-- the name of a block, and its code
abbrev pub kept_block : TemplateBlock → Name × Listing
kept_block b = (b.name, b.code.value.chunk)

-- what a component is given, and its code
abbrev pub kept_of : Component → Definition × Listing
kept_of c = (c.definition, c.code.value.chunk)

abbrev pub kept_as : Name → Signature × Nodes → Definition × Listing
kept_as file d = (definition_of d.0, listing_of file d.1)

-- components as they are kept of the template in whose text they are defined
abbrev pub kept_all : Name → Definitions → List (Definition × Listing)
kept_all file definitions = map (kept_as file) definitions

abbrev pub kept_names : List Component → List Name
kept_names = map (λ c. c.definition.name)

-- the first of this name among those that are kept
abbrev pub first_kept : Name → List (Definition × Listing) → Option (Definition × Listing)
first_kept name [] = None
first_kept name (k ∷ ks) = if bytes_eq name k.0.name then Some k else first_kept name ks
