-- The components that a tree defines.
use Rattle.std.specs.Prelude.{Bool, true, false, ◌&&◌, List, [], ◌∷◌, ◌++◌, Option, Some, None, map, codes}
use Rattle.tera_errors.specs.Site as site
use Rattle.tera_syntax_tree.specs.Tree.{Signature, Nodes, Definitions, Tree}
use Rattle.tera_syntax_tree.specs.Blocks.{blocks, are_distinct}

-- in the order of the text
abbrev pub component_names : Definitions → List site.Name
component_names definitions = map (λ d. d.0.name) definitions

-- no two components have one name
abbrev pub has_each_component_once : Tree → Bool
has_each_component_once t = are_distinct (component_names t.definitions)

abbrev pub is_empty : List (site.Name × Nodes) → Bool
is_empty [] = true
is_empty (b ∷ bs) = false

abbrev pub have_no_blocks : Definitions → Bool
have_no_blocks [] = true
have_no_blocks (d ∷ ds) = is_empty (blocks d.1) && have_no_blocks ds

-- blocks stand in no component
abbrev pub has_blocks_outside : Tree → Bool
has_blocks_outside t = have_no_blocks t.definitions

abbrev pub rest_names : Option site.Name → List site.Name
rest_names None = []
rest_names (Some n) = n ∷ []

-- no two parameters have one name, and none that of what a component is handed
abbrev pub has_fit_parameters : Signature → Bool
has_fit_parameters s =
    are_distinct (codes "body" ∷ (map (λ p. p.name) s.parameters ++ rest_names s.rest))
