-- Which template an include takes.
use Rattle.std.specs.Prelude.{◌≡◌, None, Some, Result, Ok, Err}
use Rattle.tera_errors.specs.Answer.{SeenError}
use Rattle.tera_state.specs.Scope.{Variables, nothing_set}
use Rattle.tera_meaning.specs.Registry.{Entry}
use Rattle.tera_meaning.specs.Resolve.{entry_at}
use Rattle.tera_meaning.specs.Run.{Request}
use Rattle.tera_meaning.specs.Whole.{World, Place, Refuses, Takes, way, place_of_include}
use Rattle.tera_registry.specs.declared.templates.FoundTemplate.{FoundTemplate}
use Rattle.tera_machine.specs.Subject.{AreOf}

-- the template that an include takes
pub record IsTemplate (w : World) (p : Place) (q : Request) (v : Variables)
    (found : FoundTemplate) : Type 0 where
  pub entry : Entry
  pub takes : way w p q v ≡ Takes (place_of_include p v entry.0) nothing_set entry.1.tree.nodes
  pub named : found.name.now ≡ entry.0
  pub own : entry_at found.name.now w.registry.templates ≡ Some entry
  pub among : AreOf w.registry found.templates.now

-- the template is found, or the request is refused, unless memory was refused
abbrev pub FindsTemplate : World → Place → Request → Variables → Result FoundTemplate SeenError
    → Type 0
FindsTemplate w p q v (Ok found) = IsTemplate w p q v found
FindsTemplate w p q v (Err None) = Unit {0}
FindsTemplate w p q v (Err (Some fault)) = way w p q v ≡ Refuses fault
