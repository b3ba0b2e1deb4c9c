-- Which component a request takes, and the context in which it runs.
use Rattle.std.specs.Prelude.{◌≡◌, suc, None, Some, Result, Ok, Err}
use Rattle.tera_errors.specs.Site.{Name}
use Rattle.tera_errors.specs.Answer.{SeenError}
use Rattle.tera_syntax_tree.specs.Tree.{Nodes}
use Rattle.tera_state.specs.Scope.{Variables, in_component, nothing_set}
use Rattle.tera_components.specs.Definition.{Definition, definition_of}
use Rattle.tera_meaning.specs.Components.{Component}
use Rattle.tera_meaning.specs.Run.{Request}
use Rattle.tera_meaning.specs.Whole.{World, Place, Refuses, Takes, way, place_of_component}
use Rattle.tera_code.specs.Listing.{Listing}
use Rattle.tera_code.specs.Code.{listing_of}
use Rattle.tera_registry.specs.HandedOut.{code_of}
use Rattle.tera_machine.specs.declared.components.ComponentBody.{ComponentBody}
use Rattle.tera_machine.specs.Subject.{IsOf}

-- a component as it is kept: what it is given, and its code
abbrev pub kept_meant : Component → Definition × Listing
kept_meant c = (definition_of c.signature, listing_of c.file c.body)

-- the component's code, the context of the call, and how many components are open then
pub record IsCalled (w : World) (p : Place) (q : Request) (v : Variables)
    (called : ComponentBody) : Type 0 where
  pub file : Name
  pub body : Nodes
  pub takes : way w p q v
      ≡ Takes (place_of_component (in_component called.context p.around v) p.autoescape
      (suc p.depth) file) nothing_set body
  pub code : code_of called.body ≡ listing_of file body
  pub linked : IsOf w.registry called.body
  pub depth : called.depth ≡ suc p.depth

-- the component is called, or the request is refused, unless memory was refused
abbrev pub Calls : World → Place → Request → Variables → Result ComponentBody SeenError → Type 0
Calls w p q v (Ok called) = IsCalled w p q v called
Calls w p q v (Err None) = Unit {0}
Calls w p q v (Err (Some fault)) = way w p q v ≡ Refuses fault
