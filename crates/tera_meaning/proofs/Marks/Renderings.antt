-- The marked meaning of a rendering stands for the plain one, where a claim holds of what it is made of.
use Rattle.std.proofs.Common.{◌≡◌, ℕ, Bool, true, false, IsTrue, ◌||◌, List, [], ◌∷◌, ◌++◌, refl, is_some, option_map, Option, Some, None, Result, Ok, Err, if◌then◌else◌}
use Rattle.std.specs.Str.{bytes_eq}
use Rattle.std.specs.List.{AllByRecursion}
use Rattle.tera_errors.specs.Site.{Name, Text}
use Rattle.tera_errors.specs.Fault.{Fault, message, template_not_found, component_not_found}
use Rattle.tera_syntax_tree.specs.Tree.{Tree, Nodes}
use Rattle.tera_values.specs.Alphabet.{Alphabet, Marked, plain, marking}
use Rattle.tera_values.specs.Escape.{escape_html}
use Rattle.tera_values.specs.Named.{Named}
use Rattle.tera_values.specs.Val.{Val, ValOf, text}
use Rattle.tera_state.specs.Scope.{AroundOf, nothing_set}
use Rattle.tera_meaning.specs.Run.{Signal, AnswerOf}
use Rattle.tera_meaning.specs.Registry.{Entry, Registry}
use Rattle.tera_meaning.specs.Known.{bodies, lacks_a_callee}
use Rattle.tera_meaning.specs.Components.{Component, component, one_off_name}
use Rattle.tera_meaning.specs.Resolve.{resolve, root}
use Rattle.tera_meaning.specs.Lineage.{Definer, definers}
use Rattle.tera_meaning.specs.Whole.{World, PlaceOf, meaning_in}
use Rattle.tera_meaning.specs.Rendering.{alone, beside, autoescapes, has_a_block, knows_beside, outermost_in, text_of, last_text, block_of, block_among_in, render_template_in, render_template_block_in, render_str_in, within_context_in, render_found_component_in}
use Rattle.tera_meaning.specs.Marks.Renderings.{Rendering, of_text, of_template, of_block, of_component, answered_in, found_escapes, escapes, bodies_read, handed_values, values_named, values_given, template_bodies, sources}
use Rattle.tera_meaning.proofs.Marks.All.{all-left, all-right, all-each, all-map}
use Rattle.tera_meaning.proofs.Marks.Claim.{Claim, NamesHold, BodyHolds, ValueHolds, SourcesHold}
use Rattle.tera_meaning.proofs.Marks.Each.{Each, none, more}
use Rattle.tera_meaning.proofs.Marks.Standing.{Bears, Stands, from_outside-stands, OptionStands, no_value, value, ResultStands, answers, refuses}
use Rattle.tera_meaning.proofs.Marks.Around.{Binds, AroundStands, look_implicit-stands, names-stand, outside-stands, in_component-stands, nothing-stands}
use Rattle.tera_meaning.proofs.Marks.Contexts.{context-stands}
use Rattle.tera_meaning.proofs.Marks.Meaning.{Ended, AnswerStands, fails, gave, Same}
use Rattle.tera_meaning.proofs.Marks.Holding.{OptionHolds, TemplateHolds, ComponentHolds, WorldHolds, definitions-hold, resolve-holds, root-holds, component-holds}
use Rattle.tera_meaning.proofs.Marks.Bodies.{places, meaning-stands}

-- the text of one answer stands for that of the other, or both are the same fault
abbrev pub TextStands : Claim → Result (List Marked) Fault → Result Text Fault → Type 0
TextStands K = ResultStands (Each (Bears K true))

-- where nodes are rendered, for this template
abbrev place_in : {C : Type 0} → Alphabet C → Registry → Option Name → Name → Named Val → Bool → PlaceOf C
place_in alphabet r template file context flag =
    record { template = template; file = file; around = outermost_in alphabet r context; autoescape = flag; depth = 0; included = []; opened = []; above = [] }

-- and what they mean
abbrev nodes_answer : {C : Type 0} → Alphabet C → World → Option Name → Name → Named Val → Bool → Nodes → AnswerOf C Signal
nodes_answer alphabet w template file context flag nodes =
    meaning_in alphabet w (place_in alphabet w.registry template file context flag) nothing_set nodes

module _ {K : Claim} where
  traced : {x : AnswerOf Marked Signal} {y : AnswerOf ℕ Signal} → AnswerStands K Same x y → TextStands K (text_of x) (text_of y)
  traced (fails fault n) = refuses fault
  traced (gave n k rs) = answers rs.text

  either-each : (b : Bool) {t t' : List Marked} {u u' : List ℕ} → Each (Bears K true) t u → Each (Bears K true) t' u' → Each (Bears K true) (if b then t else t') (if b then u else u')
  either-each true ts us = ts
  either-each false ts us = us

  -- the text of a block that ended keeps its marks
  last-each : (block : Name) {bs : List (Name × List Marked)} {cs : List (Name × List ℕ)} → Each (Ended K) bs cs → {t : List Marked} {u : List ℕ} → Each (Bears K true) t u → Each (Bears K true) (last_text block t bs) (last_text block u cs)
  last-each block none ts = ts
  last-each block (more {y = c} e es) ts = rw e.name (last-each block es (either-each (bytes_eq block c.0) e.text ts))

  block-traced : (block : Name) {x : AnswerOf Marked Signal} {y : AnswerOf ℕ Signal} → AnswerStands K Same x y → TextStands K (block_of block x) (block_of block y)
  block-traced block (fails fault n) = refuses fault
  block-traced block (gave n k rs) = answers (last-each block rs.blocks none)

  -- a fault, or answers of which one traces the other
  either : (b : Bool) (x : Result (List Marked) Fault) (y : Result Text Fault) → TextStands K x y → TextStands K (if b then Err message else x) (if b then Err message else y)
  either true x y h = refuses message
  either false x y h = h

  -- a block that nobody defines, or one whose text traces the other
  among-traced : (ds : List Definer) (block : Name) {x : AnswerOf Marked Signal} {y : AnswerOf ℕ Signal} → AnswerStands K Same x y → TextStands K (block_among_in marking ds block x) (block_among_in plain ds block y)
  among-traced [] block k = refuses message
  among-traced (d ∷ ds) block k = block-traced block k

  -- a body that is handed in is marked safe
  handed-stands : (body : Option Text) → AllByRecursion (ValueHolds K) (handed_values body) → OptionStands (Stands K) (option_map (λ t. marking.handed (text t true)) body) (option_map (λ t. text t true) body)
  handed-stands None h = no_value
  handed-stands (Some t) h = value (from_outside-stands (text t true) h.0)

-- at a registry, where texts are escaped by `escape_html`
module _ {K : Claim} (r : Registry) (by_html : r.engine.escape ≡ escape_html) (templates : AllByRecursion (TemplateHolds K r.engine) r.templates) (global : NamesHold K r.global) where
  alone-holds : WorldHolds K (alone r)
  alone-holds = record { templates = templates; beside = tt }

  nodes-stand : (w : World) → w.registry ≡ r → (held : WorldHolds K w) (template : Option Name) (file : Name) (nodes : Nodes) → BodyHolds K w.registry.engine nodes → (context : Named Val) → NamesHold K context → (flag : Bool) → w.registry.engine.escape ≡ escape_html → NamesHold K w.registry.global → flag ≡ true
      → AnswerStands K Same (nodes_answer marking w template file context flag nodes) (nodes_answer plain w template file context flag nodes)
  nodes-stand w same held template file nodes h context k flag escape g on =
      rw on (meaning-stands w escape held (places template file 0 [] [] [] tt (outside-stands context w.registry.global k g)) nothing-stands nodes h)

  text-traced : (reading : Result Tree Fault) (context : Named Val) (flag : Bool) → AllByRecursion (BodyHolds K r.engine) (bodies_read (of_text reading context flag)) → NamesHold K context → flag ≡ true
      → TextStands K (render_str_in marking r reading context flag) (render_str_in plain r reading context flag)
  text-traced (Err fault) context flag h k on = refuses fault
  text-traced (Ok tree) context flag h k on =
      let world : WorldHolds K (beside r tree) = record { templates = templates; beside = definitions-hold K r.engine tree h } in
      either (is_some tree.parent || has_a_block tree.nodes) _ _
      (either (lacks_a_callee (knows_beside r tree) tree) _ _
      (traced (nodes-stand (beside r tree) refl world None one_off_name tree.nodes h.0 context k flag by_html global on)))

  module _ (context : Named Val) (k : NamesHold K context) where
    template-stands : (t : Entry) → TemplateHolds K r.engine t → autoescapes r t.0 ≡ true
        → AnswerStands K Same (nodes_answer marking (alone r) (Some t.0) (root r t).0 context (autoescapes r t.0) (root r t).1.tree.nodes) (nodes_answer plain (alone r) (Some t.0) (root r t).0 context (autoescapes r t.0) (root r t).1.tree.nodes)
    template-stands t h on =
        nodes-stand (alone r) refl alone-holds (Some t.0) (root r t).0 (root r t).1.tree.nodes (root-holds (TemplateHolds K r.engine) r templates t h).0 context k (autoescapes r t.0) by_html global on

    template-traced : (o : Option Entry) → OptionHolds (TemplateHolds K r.engine) o → IsTrue (found_escapes r o) → TextStands K (render_template_in marking r o context) (render_template_in plain r o context)
    template-traced None h on = refuses template_not_found
    template-traced (Some t) h on = traced (template-stands t h on)

    block_of-traced : (block : Name) (o : Option Entry) → OptionHolds (TemplateHolds K r.engine) o → IsTrue (found_escapes r o) → TextStands K (render_template_block_in marking r o block context) (render_template_block_in plain r o block context)
    block_of-traced block None h on = refuses template_not_found
    block_of-traced block (Some t) h on = among-traced (definers r (Some t.0) block) block (template-stands t h on)

  within-traced : {a : AroundOf Marked} {b : AroundOf ℕ} → AroundStands K a b → (c : Component) → ComponentHolds K r.engine c → {x : Option (Named (ValOf Marked))} {y : Option (Named (ValOf ℕ))} → OptionStands (Each (Binds K)) x y
      → TextStands K (within_context_in marking r a true c x) (within_context_in plain r b true c y)
  within-traced around c h no_value = refuses message
  within-traced around c h (value ks) =
      traced (meaning-stands (alone r) by_html alone-holds (places None c.file 0 [] [] [] tt (in_component-stands ks around nothing-stands)) nothing-stands c.body h)

  component-traced : (given implicits : Named Val) → NamesHold K given → NamesHold K implicits → (body : Option Text) → AllByRecursion (ValueHolds K) (handed_values body) → (flag : Bool) → flag ≡ true → (o : Option Component) → OptionHolds (ComponentHolds K r.engine) o
      → TextStands K (render_found_component_in marking r o given implicits body flag) (render_found_component_in plain r o given implicits body flag)
  component-traced given implicits k l body b flag on None h = refuses component_not_found
  component-traced given implicits k l body b flag on (Some c) h =
      let around = outside-stands implicits r.global l global in
      rw on (within-traced around c h (context-stands (λ name. look_implicit-stands name around nothing-stands) (names-stand given k) c.signature (handed-stands body b)))

-- a claim that holds of what a rendering is made of holds of its text
pub rendering-stands : (K : Claim) (r : Registry) (call : Rendering) → r.engine.escape ≡ escape_html → IsTrue (escapes r call) → SourcesHold K (sources r call) → TextStands K (answered_in marking r call) (answered_in plain r call)
rendering-stands K r call by_html on held = go call on (all-left (BodyHolds K r.engine) (bodies_read call) (template_bodies r) held.bodies_hold) (all-left (ValueHolds K) (values_given call) (values_named r.global) held.values_hold)
  where
    templates : AllByRecursion (TemplateHolds K r.engine) r.templates
    templates = all-each (BodyHolds K r.engine) (λ t. bodies t.1.tree) r.templates (all-right (BodyHolds K r.engine) (bodies_read call) (template_bodies r) held.bodies_hold)

    global : NamesHold K r.global
    global = all-map (ValueHolds K) (λ v. v.1) r.global (all-right (ValueHolds K) (values_given call) (values_named r.global) held.values_hold)

    named : (vs : Named Val) → AllByRecursion (ValueHolds K) (values_named vs) → NamesHold K vs
    named vs h = all-map (ValueHolds K) (λ v. v.1) vs h

    found : (name : Name) → OptionHolds (TemplateHolds K r.engine) (resolve r name)
    found name = resolve-holds (TemplateHolds K r.engine) r templates name

    go : (call : Rendering) → IsTrue (escapes r call) → AllByRecursion (BodyHolds K r.engine) (bodies_read call) → AllByRecursion (ValueHolds K) (values_given call) → TextStands K (answered_in marking r call) (answered_in plain r call)
    go (of_text reading context flag) on bs vs = text-traced r by_html templates global reading context flag bs (named context vs) on
    go (of_template name context) on bs vs = template-traced r by_html templates global context (named context vs) (resolve r name) (found name) on
    go (of_block name block context) on bs vs = block_of-traced r by_html templates global context (named context vs) block (resolve r name) (found name) on
    go (of_component name given implicits body flag) on bs vs =
        let rest = values_named implicits ++ handed_values body in
        let later = all-right (ValueHolds K) (values_named given) rest vs in
        component-traced r by_html templates global given implicits (named given (all-left (ValueHolds K) (values_named given) rest vs))
        (named implicits (all-left (ValueHolds K) (values_named implicits) (handed_values body) later)) body (all-right (ValueHolds K) (values_named implicits) (handed_values body) later) flag on (component r name) (component-holds K r templates name)
