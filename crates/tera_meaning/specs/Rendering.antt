-- What the rendering calls answer.
use Rattle.std.specs.Prelude.{Bool, true, false, ◌||◌, List, [], ◌∷◌, is_some, nat_eq, bytes_eq, Option, Some, None, option_map, Result, Ok, Err, if◌then◌else◌}
use Rattle.std.specs.List.{list_any, ends_with}
use Rattle.tera_errors.specs.Site.{Text, Name}
use Rattle.tera_errors.specs.Fault.{Fault, message, template_not_found, component_not_found}
use Rattle.tera_values.specs.Alphabet.{Alphabet, plain}
use Rattle.tera_values.specs.Val.{Val, ValOf, text}
use Rattle.tera_values.specs.Named.{Named}
use Rattle.tera_syntax_tree.specs.Tree.{Tree, Nodes}
use Rattle.tera_syntax_tree.specs.Blocks.{top_blocks}
use Rattle.tera_syntax_tree.specs.Calls.{Callee}
use Rattle.tera_state.specs.Scope.{AroundOf, Around, outside, in_component, look_implicit, nothing_set}
use Rattle.tera_meaning.specs.Run.{Signal, Answer, AnswerOf, Failed, Gave}
use Rattle.tera_meaning.specs.Registry.{Entry, Registry}
use Rattle.tera_meaning.specs.Resolve.{resolve, root}
use Rattle.tera_components.specs.Context.{component_context_in}
use Rattle.tera_meaning.specs.Components.{Component, component, one_off_name}
use Rattle.tera_meaning.specs.Known.{is_known, lacks_a_callee}
use Rattle.tera_meaning.specs.Accepted.{is_template}
use Rattle.tera_meaning.specs.Lineage.{Definer, definers}
use Rattle.tera_meaning.specs.Whole.{World, Place, PlaceOf, component_at, place_of_component, meaning_in}

abbrev pub text_of : {C : Type 0} → AnswerOf C Signal → Result (List C) Fault
text_of (Failed fault n) = Err fault
text_of (Gave signal run n) = Ok run.text

-- the text of the last of these blocks that has this name, or the other one
abbrev pub last_text : {C : Type 0} → Name → List C → List (Name × List C) → List C
last_text block other [] = other
last_text block other (b ∷ bs) = last_text block (if bytes_eq block b.0 then b.1 else other) bs

-- the text of the last block of this name that ended, or the empty text
abbrev pub block_of : {C : Type 0} → Name → AnswerOf C Signal → Result (List C) Fault
block_of block (Failed fault n) = Err fault
block_of block (Gave signal run n) = Ok (last_text block [] run.blocks)

abbrev pub alone : Registry → World
alone r = record { registry = r; beside = [] }

-- with the components of a text beside the registry
abbrev pub beside : Registry → Tree → World
beside r tree = record { registry = r; beside = tree.definitions }

-- whether texts are escaped in a template of this name
abbrev pub autoescapes : Registry → Name → Bool
autoescapes r name = list_any (λ suffix. ends_with nat_eq name suffix) r.suffixes

abbrev pub has_some : {A : Type 0} → List A → Bool
has_some [] = false
has_some (a ∷ as') = true

-- whether nodes have a block
abbrev pub has_a_block : Nodes → Bool
has_a_block nodes = has_some (top_blocks nodes)

-- whether a name is that of a component of the world
abbrev pub is_component_in : World → Name → Bool
is_component_in w name = is_some (component_at w name)

-- whether what is called in the world is there
abbrev pub knows_in : World → Callee → Bool
knows_in w = is_known w.registry.engine (is_component_in w) (is_template w.registry)

-- for a text beside the registry, its own components are there as well
abbrev pub knows_beside : Registry → Tree → Callee → Bool
knows_beside r tree = knows_in (beside r tree)

module _ {C : Type 0} (alphabet : Alphabet C) where
  -- around the variables of a rendering: the caller's context, and the global one
  abbrev pub outermost_in : Registry → Named Val → AroundOf C
  outermost_in r context = outside (alphabet.all_handed context) (alphabet.all_handed r.global)

  abbrev pub one_off_place_in : Registry → Named Val → Bool → PlaceOf C
  one_off_place_in r context autoescape = record {
    template = None;
    file = one_off_name;
    around = outermost_in r context;
    autoescape = autoescape;
    depth = 0;
    included = [];
    opened = [];
    above = [];
  }

  abbrev pub one_off_meaning_in : Registry → Tree → Named Val → Bool → AnswerOf C Signal
  one_off_meaning_in r tree context autoescape =
      meaning_in alphabet (beside r tree)
      (one_off_place_in r context autoescape) nothing_set tree.nodes

  -- the text of a tree that calls nothing that is not there
  abbrev pub one_off_text_in : Registry → Tree → Named Val → Bool → Result (List C) Fault
  one_off_text_in r tree context autoescape =
      if lacks_a_callee (knows_beside r tree) tree then Err message
      else text_of (one_off_meaning_in r tree context autoescape)

  -- the reader's fault; a text beside the registry may extend no template, have no block, and call
  -- nothing that is not there; else the text of what was read
  abbrev pub render_str_in : Registry → Result Tree Fault → Named Val → Bool → Result (List C) Fault
  render_str_in r (Err fault) context autoescape = Err fault
  render_str_in r (Ok tree) context autoescape =
      if is_some tree.parent || has_a_block tree.nodes then Err message
      else one_off_text_in r tree context autoescape

  -- Nodes stand in the text of the template that has no parent; blocks are put out and texts are
  -- escaped as for the template that is rendered.
  abbrev pub template_place_in : Registry → Entry → Named Val → PlaceOf C
  template_place_in r t context = record {
    template = Some t.0;
    file = (root r t).0;
    around = outermost_in r context;
    autoescape = autoescapes r t.0;
    depth = 0;
    included = [];
    opened = [];
    above = [];
  }

  abbrev pub template_meaning_in : Registry → Entry → Named Val → AnswerOf C Signal
  template_meaning_in r t context =
      meaning_in alphabet (alone r)
      (template_place_in r t context) nothing_set (root r t).1.tree.nodes

  abbrev pub render_template_in : Registry → Option Entry → Named Val → Result (List C) Fault
  render_template_in r None context = Err template_not_found
  render_template_in r (Some t) context = text_of (template_meaning_in r t context)

  -- the text of the template to which a name resolves
  abbrev pub render_in : Registry → Name → Named Val → Result (List C) Fault
  render_in r name context = render_template_in r (resolve r name) context

  abbrev pub block_among_in : List Definer → Name → AnswerOf C Signal → Result (List C) Fault
  block_among_in [] block answer = Err message
  block_among_in (d ∷ ds) block answer = block_of block answer

  abbrev pub render_template_block_in : Registry → Option Entry → Name → Named Val
      → Result (List C) Fault
  render_template_block_in r None block context = Err template_not_found
  render_template_block_in r (Some t) block context =
      block_among_in (definers r (Some t.0) block) block (template_meaning_in r t context)

  -- The text of a block in the template to which a name resolves, as it ended last while all of the
  -- template was rendered. A block that nobody defines is refused.
  abbrev pub render_block_in : Registry → Name → Name → Named Val → Result (List C) Fault
  render_block_in r name block context = render_template_block_in r (resolve r name) block context

  abbrev pub within_context_in : Registry → AroundOf C → Bool → Component
      → Option (Named (ValOf C)) → Result (List C) Fault
  within_context_in r caller autoescape c None = Err message
  within_context_in r caller autoescape c (Some context) =
      text_of (meaning_in alphabet (alone r)
      (place_of_component (in_component context caller nothing_set) autoescape 0 c.file)
      nothing_set c.body)

  abbrev pub render_found_component_in : Registry → Option Component → Named Val → Named Val
      → Option Text → Bool → Result (List C) Fault
  render_found_component_in r None given implicits body autoescape = Err component_not_found
  render_found_component_in r (Some c) given implicits body autoescape =
      let caller = outermost_in r implicits in
      let handed = option_map (λ t. alphabet.handed (text t true)) body in
      within_context_in r caller autoescape c
      (component_context_in alphabet c.signature (alphabet.all_handed given) handed
      (λ name. look_implicit name caller nothing_set))

  -- The text of a component with these arguments. A body that is handed in is a safe text. Implicit
  -- parameters are looked up in a state that has the implicits as its context, and the global
  -- context.
  abbrev pub render_component_in : Registry → Name → Named Val → Named Val → Option Text → Bool
      → Result (List C) Fault
  render_component_in r name given implicits body autoescape =
      render_found_component_in r (component r name) given implicits body autoescape

-- of texts of bytes: this is what runs
abbrev pub outermost : Registry → Named Val → Around
outermost = outermost_in plain

abbrev pub one_off_place : Registry → Named Val → Bool → Place
one_off_place = one_off_place_in plain

abbrev pub one_off_meaning : Registry → Tree → Named Val → Bool → Answer Signal
one_off_meaning = one_off_meaning_in plain

abbrev pub one_off_text : Registry → Tree → Named Val → Bool → Result Text Fault
one_off_text = one_off_text_in plain

abbrev pub render_str : Registry → Result Tree Fault → Named Val → Bool → Result Text Fault
render_str = render_str_in plain

abbrev pub template_place : Registry → Entry → Named Val → Place
template_place = template_place_in plain

abbrev pub template_meaning : Registry → Entry → Named Val → Answer Signal
template_meaning = template_meaning_in plain

abbrev pub render_template : Registry → Option Entry → Named Val → Result Text Fault
render_template = render_template_in plain

abbrev pub render : Registry → Name → Named Val → Result Text Fault
render = render_in plain

abbrev pub block_among : List Definer → Name → Answer Signal → Result Text Fault
block_among = block_among_in plain

abbrev pub render_template_block : Registry → Option Entry → Name → Named Val → Result Text Fault
render_template_block = render_template_block_in plain

abbrev pub render_block : Registry → Name → Name → Named Val → Result Text Fault
render_block = render_block_in plain

abbrev pub render_component : Registry → Name → Named Val → Named Val → Option Text → Bool
    → Result Text Fault
render_component = render_component_in plain
