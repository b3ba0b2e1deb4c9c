-- What an engine holds, as the definitions see it.
use Rattle.std.specs.Prelude.{Bool, [], map, string_bytes, Option, Some, None, option_map, Result, Err, if◌then◌else◌}
use Rattle.tera_errors.specs.Site.{Text, Name}
use Rattle.tera_errors.specs.Fault.{Fault, message}
use Rattle.tera_values.specs.Val.{Val}
use Rattle.tera_values.specs.Named.{Named}
use Rattle.tera_syntax_tree.specs.Delimiters.{delimiters_of}
use Rattle.tera_syntax_tree.specs.Tree.{Nodes, NoNodes, Tree}
use Rattle.tera_state.specs.Scope.{Around, nothing_set}
use Rattle.tera_state.specs.Engine.{Engine}
use Rattle.tera_components.specs.Definition.{Info, definition_of, info_of}
use Rattle.tera_meaning.specs.Run.{begun}
pub use Rattle.tera_meaning.specs.Registry.{Entry, Registry, new_registry, standard_suffixes}
use Rattle.tera_meaning.specs.Resolve.{entry_at}
use Rattle.tera_meaning.specs.Rendering.{alone, autoescapes, beside, knows_in, outermost, text_of, block_of}
use Rattle.tera_meaning.specs.Known.{lacks_a_callee}
use Rattle.tera_meaning.specs.Components.{Component, component, one_off_name}
use Rattle.tera_meaning.specs.Whole.{World, Place}
use Rattle.tera_registry.specs.Templates.{templates_of, prefixes_of}
use Rattle.tera_machine.specs.Subject.{Subject, template_of, meant}
use Rattle.tera_machine.specs.declared.machine.VirtualMachine.{VirtualMachine}
use Rattle.tera.specs.declared.engine.TeraOver.{TeraOver}

-- where the objects mean this engine
abbrev pub registry_of : {O : Type 0} → (O → Engine) → TeraOver O → Registry
registry_of engine t = record {
  templates = templates_of t.templates;
  prefixes = prefixes_of t.templates;
  suffixes = map string_bytes t.suffixes.items;
  delimiters = delimiters_of t.delimiters;
  global = t.global_context;
  engine = engine t.objects;
}

-- where a body stands that a rendering begins with, with this around its variables
abbrev pub place_at : Option Name → Name → Around → Bool → Place
place_at template file around autoescape = record {
  template = template;
  file = file;
  around = around;
  autoescape = autoescape;
  depth = 0;
  included = [];
  opened = [];
  above = [];
}

-- what a run of the machine is about where nodes are rendered in a context
abbrev pub subject_of : World → Option Name → Name → Nodes → Named Val → Bool → Subject
subject_of w template file nodes context autoescape = record {
  world = w;
  place = place_at template file (outermost w.registry context) autoescape;
  tree = nodes;
}

-- where this is the tree of a text beside the registry
abbrev pub subject_beside : Registry → Tree → Named Val → Bool → Subject
subject_beside r tree context autoescape =
    subject_of (beside r tree) None one_off_name tree.nodes context autoescape

abbrev pub nodes_in : Option Entry → Nodes
nodes_in None = NoNodes
nodes_in (Some t) = t.1.tree.nodes

-- the nodes of the template that has this name
abbrev pub nodes_of_file : Registry → Name → Nodes
nodes_of_file r file = nodes_in (entry_at file r.templates)

-- the nodes of a template's text with which the rendering of a template begins
abbrev pub subject_of_file : Registry → Name → Name → Named Val → Subject
subject_of_file r template file context =
    subject_of (alone r) (Some template) file (nodes_of_file r file) context
    (autoescapes r template)

-- the body of a component, with this around its variables
abbrev pub subject_of_component : Registry → Option Component → Around → Bool → Subject
subject_of_component r None around autoescape =
    record { world = alone r; place = place_at None [] around autoescape; tree = NoNodes }
subject_of_component r (Some c) around autoescape =
    record { world = alone r; place = place_at None c.file around autoescape; tree = c.body }

-- where a machine runs a body that has nothing else open, with this around its variables
abbrev pub place_in : {O : Type 0} → VirtualMachine O → Name → Around → Place
place_in m file around = record {
  template = template_of m;
  file = file;
  around = around;
  autoescape = m.autoescape;
  depth = m.depth;
  included = [];
  opened = [];
  above = [];
}

-- the text that a body means where it begins a rendering, or its fault
abbrev pub text_meant : Subject → Result Text Fault
text_meant s = text_of (meant s (begun nothing_set))

-- a body and the components of the text beside the registry
abbrev pub tree_beside : Subject → Tree
tree_beside s = record { parent = None; nodes = s.tree; definitions = s.world.beside }

-- the text of these, where they call nothing that is not there
abbrev pub one_off_meant : Subject → Result Text Fault
one_off_meant s =
    if lacks_a_callee (knows_in s.world) (tree_beside s) then Err message else text_meant s

-- and the text that a block has when it ends last in it
abbrev pub block_meant : Name → Subject → Result Text Fault
block_meant block s = block_of block (meant s (begun nothing_set))

-- what is told of the component of a name
abbrev pub info_at : Registry → Name → Option Info
info_at r name = option_map (λ c. info_of (definition_of c.signature)) (component r name)
