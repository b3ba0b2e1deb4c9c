-- What a run of the machine is about.
use Rattle.std.specs.Prelude.{◌≡◌, ℕ, [], List, map, Option, Some, None, Result, Ok, Err, option_map}
use Rattle.std.specs.List.{AllByRecursion}
use Rattle.tera_errors.specs.Site.{Name}
use Rattle.tera_errors.specs.Answer.{SeenError}
use Rattle.tera_syntax_tree.specs.Tree.{Nodes}
use Rattle.tera_state.specs.Scopes.{around_of}
use Rattle.tera_state.specs.Engine.{Engine}
use Rattle.tera_components.specs.Definition.{Definition}
use Rattle.tera_code.specs.Listing.{Listing}
use Rattle.tera_meaning.specs.Components.{one_off_name}
use Rattle.tera_meaning.specs.Here.{Here}
use Rattle.tera_meaning.specs.Registry.{Registry}
use Rattle.tera_meaning.specs.Run.{Signal, Answer, Failed, Gave, Meaning, visit}
use Rattle.tera_meaning.specs.Meaning.{nodes_meaning}
use Rattle.tera_meaning.specs.Whole.{World, Place, here_at, whole}
use Rattle.tera_registry.specs.Components.{kept_of, kept_as}
use Rattle.tera_registry.specs.Numbers.{first_number}
use Rattle.tera_registry.specs.Templates.{with_templates, definers_of, AreAmong}
use Rattle.tera_registry.specs.declared.body.Body.{Body}
use Rattle.tera_registry.specs.declared.templates.Templates.{Templates}
use Rattle.tera_registry.specs.declared.templates.FoundTemplate.{FoundTemplate}
use Rattle.tera_machine.specs.declared.open_bodies.OpenBlock.{OpenBlock}
use Rattle.tera_machine.specs.declared.open_bodies.OpenBodies.{OpenBodies}
use Rattle.tera_machine.specs.declared.components.OneOffComponents.{OneOffComponents}
use Rattle.tera_machine.specs.declared.configuration.Configuration.{Configuration}
use Rattle.tera_machine.specs.declared.machine.VirtualMachine.{VirtualMachine}
use Rattle.tera_machine.specs.Included.{names_in, names_opened}
use Rattle.tera_machine.specs.Config.{Config, config_of}

-- what the rendering stands on, where the body stands, and the body's tree
pub record Subject : Type 0 where
  pub world : World
  pub place : Place
  pub tree : Nodes

-- what the body means
abbrev pub meant : Subject → Meaning Signal
meant s = visit (nodes_meaning (here_at s.world s.place) (whole s.world s.place) s.tree)

-- what it means where a configuration stands
abbrev pub meant_from : Subject → Configuration → Answer Signal
meant_from s c = meant s (config_of c).run

-- what the objects of the machine mean, where objects mean this
abbrev pub engine_of : {O : Type 0} → (O → Engine) → VirtualMachine O → Engine
engine_of engine m = engine m.objects.now

-- the template that is rendered; a text beside the registry is none
abbrev pub template_of : {O : Type 0} → VirtualMachine O → Option Name
template_of m = option_map (λ f. f.name.now) m.template

-- these are the templates of the registry
abbrev pub AreOf : Registry → Templates → Type 0
AreOf r templates = with_templates r templates ≡ r

abbrev pub is_from : Option FoundTemplate → Registry → Type 0
is_from None r = Unit {0}
is_from (Some found) r = AreOf r found.templates.now

-- each of these is one of them
abbrev pub AreFrom : List FoundTemplate → Registry → Type 0
AreFrom all r = AllByRecursion (λ found. AreOf r found.templates.now) all

-- and those to which a body is linked
abbrev pub IsOf : Registry → Body → Type 0
IsOf r body = AreOf r body.templates.now

-- the number of the body of the nearest who defines a block for a template; for none nobody does
abbrev pub first_number_for : Registry → Option Name → Name → Option ℕ
first_number_for r None block = None
first_number_for r (Some template) block = first_number r template block

-- each of these blocks is open by that number
abbrev pub AreNumbered : Registry → Option Name → List OpenBlock → Type 0
AreNumbered r template opened =
    AllByRecursion (λ b. first_number_for r template b.name ≡ Some b.number) opened

-- the body that runs belongs to the templates of the registry, those who define its block above, and
-- the templates that are included and open; and blocks are open by their numbers for the template
-- that is rendered
abbrev pub Belong : {O : Type 0} → World → VirtualMachine O → Body → OpenBodies → Type 0
Belong w m body blocks =
    IsOf w.registry body
    × AreAmong w.registry blocks.above
    × AreFrom blocks.included.inner w.registry
    × AreNumbered w.registry (template_of m) blocks.opened.inner

-- the components of the text beside the templates, as they are kept
abbrev pub kept_beside : Option OneOffComponents → List (Definition × Listing)
kept_beside None = []
kept_beside (Some b) = map kept_of b.text.now.components.items

-- that text is linked to the templates of the registry
abbrev pub stands_beside : Option OneOffComponents → Registry → Type 0
stands_beside None r = Unit {0}
stands_beside (Some b) r = AreOf r b.text.now.templates.now

-- the template that is rendered is one of the registry's, and a text beside them has these components
pub record IsLinked {O : Type 0} (m : VirtualMachine O) (w : World) : Type 0 where
  pub template : is_from m.template w.registry
  pub text : stands_beside m.beside w.registry
  pub components : kept_beside m.beside ≡ map (kept_as one_off_name) w.beside

-- where a body of this file stands while the machine runs it, with these templates and blocks open
abbrev pub place_at : {O : Type 0} → VirtualMachine O → Name → OpenBodies → Configuration → Place
place_at m file blocks c = record {
  template = template_of m;
  file = file;
  around = around_of c.scopes;
  autoescape = m.autoescape;
  depth = m.depth;
  included = names_in blocks.included.inner;
  opened = names_opened blocks.opened.inner;
  above = definers_of blocks.above;
}

-- where it stands while nothing is open
abbrev pub place_of : {O : Type 0} → VirtualMachine O → Name → Configuration → Place
place_of m file c = record {
  template = template_of m;
  file = file;
  around = around_of c.scopes;
  autoescape = m.autoescape;
  depth = m.depth;
  included = [];
  opened = [];
  above = [];
}

-- what is fixed for the nodes of that body
abbrev pub here_of : {O : Type 0} → (O → Engine) → VirtualMachine O → Name → Configuration → Here
here_of engine m file c = record {
  file = file;
  around = around_of c.scopes;
  autoescape = m.autoescape;
  engine = engine_of engine m;
}

-- the run gave what is meant, and all that waited waits as before, unless memory was refused
abbrev pub Means : Answer Signal → Config → Result (Unit {0}) SeenError → Config → Type 0
Means (Gave signal run n) before (Ok u) after = after ≡ record before { run = run }
Means (Gave signal run n) before (Err None) after = Unit {0}
Means (Gave signal run n) before (Err (Some fault)) after = ⊥
Means (Failed meant n) before (Ok u) after = ⊥
Means (Failed meant n) before (Err None) after = Unit {0}
Means (Failed meant n) before (Err (Some fault)) after = fault ≡ meant
