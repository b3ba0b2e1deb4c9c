-- What a preview shows: each component by itself.
use Rattle.std.specs.Prelude.{◌≡◌, Bool, List, [], map, ◌++◌, codes, Option, Some, None, Result, Ok, Err}
use Rattle.std.specs.List.{join_by}
use Rattle.tera.specs.Fault.{Fault}
use Rattle.tera.specs.Site.{Name, Text}
use Rattle.tera.specs.Named.{Named, with_names}
use Rattle.tera.specs.Val.{Val}
use Rattle.tera.specs.Definition.{Info}
use Rattle.tera.specs.Components.{AreComponentNames}
use Rattle.tera.specs.Registry.{Registry, info_at}
use Rattle.tera.specs.Rendering.{render_component}
use Rattle.tera_run_script.specs.Reply.{fault_line}

-- the entries that the parameters of this component name
abbrev pub arguments_for : Option Info → Named Val → Named Val
arguments_for None context = []
arguments_for (Some info) context = with_names (map (λ formal. formal.name) info.formals) context

-- a text, or a fault as it is written
abbrev pub told : Result Text Fault → Text
told (Ok text) = text
told (Err fault) = fault_line (Some fault)

-- the name of a component, and then what it is by itself: the entries that its parameters name are
-- its arguments, all entries are implicits, and there is no body
abbrev pub shown : Registry → Named Val → Bool → Name → Text
shown r context autoescape name =
    codes "# " ++ name ++ codes "\n"
    ++ told (render_component r name
    (arguments_for (info_at r name) context) context None autoescape)

-- all components, in byte order of their names
pub record Previews (r : Registry) (context : Named Val) (autoescape : Bool)
    (answer : Result Text Fault) : Type 0 where
  pub names : List Name
  pub are : AreComponentNames r names
  pub is : answer ≡ Ok (join_by (shown r context autoescape) (codes "\n") names)
