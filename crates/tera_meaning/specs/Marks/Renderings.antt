-- Renderings, and where their characters come from.
use Rattle.std.specs.Prelude.{◌≡◌, Bool, true, false, IsTrue, List, [], ◌∷◌, ◌++◌, map, flat_map, Option, Some, None, Result, Ok, IfOk}
use Rattle.std.specs.List.{AllByRecursion}
use Rattle.tera_errors.specs.Site.{Text, Name}
use Rattle.tera_errors.specs.Fault.{Fault}
use Rattle.tera_syntax_tree.specs.Tree.{Tree, Nodes}
use Rattle.tera_values.specs.Alphabet.{Alphabet, plain, marking}
use Rattle.tera_values.specs.Val.{Val, text}
use Rattle.tera_values.specs.Named.{Named}
use Rattle.tera_values.specs.Escape.{escape_html}
use Rattle.tera_meaning.specs.Registry.{Entry, Registry}
use Rattle.tera_meaning.specs.Resolve.{resolve}
use Rattle.tera_meaning.specs.Known.{bodies}
use Rattle.tera_meaning.specs.Rendering.{autoescapes, render_in, render_block_in, render_component_in, render_str_in}
use Rattle.tera_meaning.specs.Marks.Origin.{is_markup}
use Rattle.tera_meaning.specs.Marks.Sources.{Sources, ComesFrom, HoldNoMarkup}

-- a rendering: of what was read of a text beside the templates, of a template, of a block of one,
-- or of a component
pub data Rendering : Type 0 where
  of_text : (reading : Result Tree Fault) (context : Named Val) (autoescape : Bool) → Rendering
  of_template : (name : Name) (context : Named Val) → Rendering
  of_block : (name block : Name) (context : Named Val) → Rendering
  of_component : (name : Name) (given implicits : Named Val) (body : Option Text)
      (autoescape : Bool) → Rendering

abbrev pub answered_in : {C : Type 0} → Alphabet C → Registry → Rendering → Result (List C) Fault
answered_in a r (of_text reading context autoescape) = render_str_in a r reading context autoescape
answered_in a r (of_template name context) = render_in a r name context
answered_in a r (of_block name block context) = render_block_in a r name block context
answered_in a r (of_component name given implicits body autoescape) =
    render_component_in a r name given implicits body autoescape

abbrev pub found_escapes : Registry → Option Entry → Bool
found_escapes r None = false
found_escapes r (Some t) = autoescapes r t.0

-- whether texts are escaped: as the name of the template says, or the caller
abbrev pub escapes : Registry → Rendering → Bool
escapes r (of_text reading context autoescape) = autoescape
escapes r (of_template name context) = found_escapes r (resolve r name)
escapes r (of_block name block context) = found_escapes r (resolve r name)
escapes r (of_component name given implicits body autoescape) = autoescape

-- all bodies of the templates, and of a text beside them
abbrev pub template_bodies : Registry → List Nodes
template_bodies r = flat_map (λ t. bodies t.1.tree) r.templates

abbrev pub bodies_read : Rendering → List Nodes
bodies_read (of_text (Ok tree) context autoescape) = bodies tree
bodies_read other = []

-- a body that is handed in is a safe text
abbrev pub handed_values : Option Text → List Val
handed_values None = []
handed_values (Some t) = text t true ∷ []

abbrev pub values_named : Named Val → List Val
values_named vs = map (λ v. v.1) vs

abbrev pub values_given : Rendering → List Val
values_given (of_text reading context autoescape) = values_named context
values_given (of_template name context) = values_named context
values_given (of_block name block context) = values_named context
values_given (of_component name given implicits body autoescape) =
    values_named given ++ (values_named implicits ++ handed_values body)

-- what a rendering is made of; the global context belongs to it
abbrev pub sources : Registry → Rendering → Sources
sources r call = record {
  bodies = bodies_read call ++ template_bodies r;
  values = values_given call ++ values_named r.global;
  engine = r.engine;
}

-- Where texts are escaped, and by `escape_html`, each character of the marked meaning comes from
-- what its mark says.
abbrev pub CharactersComeFrom : Type 0
CharactersComeFrom =
    (r : Registry) (call : Rendering)
    → r.engine.escape ≡ escape_html → IsTrue (escapes r call)
    → IfOk (answered_in marking r call) (AllByRecursion (ComesFrom (sources r call)))

-- Where neither a text of a template nor a text that is marked safe holds markup, the rendering
-- holds none.
abbrev pub NoMarkupComesOfNone : Type 0
NoMarkupComesOfNone =
    (r : Registry) (call : Rendering)
    → r.engine.escape ≡ escape_html → IsTrue (escapes r call) → HoldNoMarkup (sources r call)
    → IfOk (answered_in plain r call) (AllByRecursion (λ b. is_markup b ≡ false))
