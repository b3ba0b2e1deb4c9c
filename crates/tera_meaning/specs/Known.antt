-- Whether what a tree calls is there.
use Rattle.std.specs.Prelude.{Bool, not, List, ◌∷◌, ◌++◌, map, flat_map}
use Rattle.tera_errors.specs.Site.{Name}
use Rattle.std.specs.List.{list_any, filter_map}
use Rattle.tera_syntax_tree.specs.Tree.{Nodes, Tree}
use Rattle.tera_syntax_tree.specs.Blocks.{blocks}
use Rattle.tera_syntax_tree.specs.Calls.{Callee, AFilter, ATest, AFunction, AComponent, ATemplate, calls, template_called}
use Rattle.tera_state.specs.Engine.{Engine, has_filter, has_test, has_function}

-- with this engine, where these components and these templates are there
abbrev pub is_known : Engine → (Name → Bool) → (Name → Bool) → Callee → Bool
is_known engine component template (AFilter name) = has_filter engine name
is_known engine component template (ATest name) = has_test engine name
is_known engine component template (AFunction name) = has_function engine name
is_known engine component template (AComponent name) = component name
is_known engine component template (ATemplate name) = template name

-- whether a body itself calls what is not there, where this is
abbrev pub has_unknown : (Callee → Bool) → Nodes → Bool
has_unknown known nodes = list_any (λ c. not (known c)) (calls nodes)

-- a template's own body, and those of its blocks and its components
abbrev pub bodies : Tree → List Nodes
bodies tree =
    tree.nodes ∷ (map (λ b. b.1) (blocks tree.nodes) ++ map (λ d. d.1) tree.definitions)

abbrev pub lacks_a_callee : (Callee → Bool) → Tree → Bool
lacks_a_callee known tree = list_any (has_unknown known) (bodies tree)

-- the names of the templates that the bodies call
abbrev pub included_names : Tree → List Name
included_names tree = filter_map template_called (flat_map calls (bodies tree))
