-- A rendering of a component, from what was found by its name.
use Rattle.std.proofs.Common.{◌≡◌, Bool, true, false, IsTrue, List, [], ◌∷◌, Option, Some, None, option_map, option_and_then, Result, Ok, Err, if◌then◌else◌, refl, sym, ap, ap₂, ◌∙◌, subst}
use Rattle.std.specs.Str.{bytes_eq}
use Rattle.std.specs.Cmp.Lexicographic.{bytes_decides}
use Rattle.tera_errors.specs.Site.{Text, Name}
use Rattle.tera_errors.specs.Fault.{Fault, message, component_not_found}
use Rattle.tera_errors.specs.Answer.{SeenError, Says, Gives, GivesOneOf, SaysOneOf}
use Rattle.tera_syntax_tree.specs.Tree.{Signature, Nodes}
use Rattle.tera_values.specs.Alphabet.{marking, plain}
use Rattle.tera_values.specs.Escape.{escape_html}
use Rattle.tera_values.specs.Val.{Val, text}
use Rattle.tera_values.specs.Named.{Named}
use Rattle.tera_state.specs.Scope.{Around, Variables, in_component, look_implicit, nothing_set}
use Rattle.tera_components.specs.Context.{component_context}
use Rattle.tera_components.specs.Definition.{Definition, definition_of, info_of, or_message}
use Rattle.tera_meaning.specs.Registry.{Entry, Registry}
use Rattle.tera_meaning.specs.Components.{Component, component_named, component_in, definer_of, component}
use Rattle.tera_meaning.specs.Rendering.{outermost, within_context_in, render_found_component_in, render_component, render_component_in}
use Rattle.tera_meaning.specs.Marks.Origin.{Traces}
use Rattle.tera_meaning.proofs.Marks.Traced.{components_are_traced}
use Rattle.tera_registry.specs.declared.templates.Defined.{Defined}
use Rattle.tera_registry.specs.Templates.{IsKept, IsDefined}
use Rattle.tera.specs.Registry.{subject_of_component, text_meant, info_at}
use Rattle.tera.specs.Budget.{component_visits, visits_meant, visits_of_component, visits_within}
use Rattle.tera.specs.Rendering.{ComponentByName}

named-by : (b : Bool) (file name : Name) (d : Signature × Nodes) (ds : List (Signature × Nodes)) (c : Component) → bytes_eq name d.0.name ≡ b → (if b then Some (let k : Component = record { file = file; signature = d.0; body = d.1 } in k) else component_named file name ds) ≡ Some c → (component_named file name ds ≡ Some c → c.signature.name ≡ name) → c.signature.name ≡ name
named-by true file name d ds c same is rest =
    let k : Component = record { file = file; signature = d.0; body = d.1 } in
    let p : k ≡ c = (let q : Some k ≡ Some c = is in cc) in
    sym (ap (λ (x : Component). x.signature.name) p) ∙ sym ((bytes_decides name d.0.name).0 same)
named-by false file name d ds c same is rest = rest is

named-among : (file name : Name) (ds : List (Signature × Nodes)) (c : Component) → component_named file name ds ≡ Some c → c.signature.name ≡ name
named-among file name [] c is = (let q : None ≡ Some c = is in cc)
named-among file name (d ∷ ds) c is =
    named-by (bytes_eq name d.0.name) file name d ds c refl is (named-among file name ds c)

named-in : (name : Name) (o : Option Entry) (c : Component) → option_and_then (component_in name) o ≡ Some c → c.signature.name ≡ name
named-in name None c is = (let q : None ≡ Some c = is in cc)
named-in name (Some t) c is = named-among t.0 name _ c is

-- a component that is found has the name by which it is found
named-found : (r : Registry) (name : Name) (o : Option Component) (found : Defined) → component r name ≡ o → IsDefined o (Some found) → found.definition.now.name ≡ name
named-found r name None found at is = absurd is
named-found r name (Some c) found at is =
    ap (λ (d : Definition). d.name) is.given ∙ named-in name (definer_of r name) c at

pub found-named : (r : Registry) (name : Name) (found : Defined) → IsDefined (component r name) (Some found) → found.definition.now.name ≡ name
found-named r name found is = named-found r name (component r name) found refl is

-- so it is found by its own
pub finds-itself : (r : Registry) (name : Name) (found : Defined) → IsDefined (component r name) (Some found) → IsDefined (component r found.definition.now.name) (Some found)
finds-itself r name found is =
    subst (λ (n : Name). IsDefined (component r n) (Some found)) (sym (found-named r name found is)) is

module _ (r : Registry) (caller : Around) (flag : Bool) (c : Component) where
  -- arguments that do not fit are refused
  unfit-says : (o : Option (Named Val)) (e : SeenError) → Says e (or_message o) → Says e (within_context_in plain r caller flag c o)
  unfit-says o None h = tt
  unfit-says None (Some fault) h =
      let p : message ≡ fault = (let q : Err message ≡ Err fault = h in cc) in
      ap Err p
  unfit-says (Some context) (Some fault) h = (let q : Ok context ≡ Err fault = h in cc)

  -- any others give the context
  fit-is : (o : Option (Named Val)) (context : Named Val) → or_message o ≡ Ok context → o ≡ Some context
  fit-is None context h = (let q : Err message ≡ Ok context = h in cc)
  fit-is (Some x) context h =
      let p : x ≡ context = (let q : Ok x ≡ Ok context = h in cc) in
      ap Some p

-- the context of a call of a component, where its caller stands like this
abbrev context_in : Signature → Named Val → Option Val → Around → Variables → Option (Named Val)
context_in s args body around v = component_context s args body (λ name. look_implicit name around v)

-- what a call may make of the context of a component that is kept
abbrev Builds : Definition → Named Val → Option Val → Around → Variables → Result (Named Val) SeenError → Type 0
Builds d args body around v result =
    (s : Signature) → d ≡ definition_of s → Gives (λ x. x) result (or_message (context_in s args body around v))

module _ (r : Registry) (args implicits : Named Val) (body : Option Text) (flag : Bool) (found : Defined) (around : Around) (v : Variables) (outer : around ≡ outermost r implicits) (fresh : v ≡ nothing_set) (value : Option Val) (handed : option_map (λ b. text b true) body ≡ value) where
  abbrev caller : Around
  caller = outermost r implicits

  builds : (c : Component) (result : Result (Named Val) SeenError) → IsKept c found → Builds found.definition.now args value around v result → Gives (λ x. x) result (or_message (context_in c.signature args (option_map (λ b. text b true) body) caller nothing_set))
  builds c result is made =
      let P : Option (Named Val) → Type 0 = λ o. Gives (λ x. x) result (or_message o) in
      let same : context_in c.signature args value around v ≡ context_in c.signature args (option_map (λ b. text b true) body) caller nothing_set =
      ap₂ (λ a w. context_in c.signature args value a w) outer fresh
      ∙ ap (λ b. context_in c.signature args b caller nothing_set) (sym handed) in
      subst P same (made c.signature is.given)

  meant-unfit : (o : Option Component) (e : SeenError) → IsDefined o (Some found) → Builds found.definition.now args value around v (Err e) → Says e (render_found_component_in plain r o args implicits body flag)
  meant-unfit None e is made = absurd is
  meant-unfit (Some c) e is made =
      unfit-says r caller flag c (context_in c.signature args (option_map (λ b. text b true) body) caller nothing_set) e (builds c (Err e) is made)

  -- a component whose arguments do not fit is refused
  pub component-unfit : (e : SeenError) → IsDefined (component r found.definition.now.name) (Some found) → Builds found.definition.now args value around v (Err e) → Says e (render_component r found.definition.now.name args implicits body flag)
  component-unfit e is made = meant-unfit (component r found.definition.now.name) e is made

  meant-runs : (o : Option Component) (context : Named Val) (inner : Around) → IsDefined o (Some found) → Builds found.definition.now args value around v (Ok context) → inner ≡ in_component context around v → text_meant (subject_of_component r o inner flag) ≡ render_found_component_in plain r o args implicits body flag
  meant-runs None context inner is made at = absurd is
  meant-runs (Some c) context inner is made at =
      let fits = fit-is r caller flag c _ context (builds c (Ok context) is made) in
      let place = at ∙ ap₂ (λ a w. in_component context a w) outer fresh in
      ap (λ (a : Around). text_meant (subject_of_component r (Some c) a flag)) place
      ∙ ap (within_context_in plain r caller flag c) (sym fits)

  -- the text of any other is that of its body
  pub component-runs : (context : Named Val) (inner : Around) → IsDefined (component r found.definition.now.name) (Some found) → Builds found.definition.now args value around v (Ok context) → inner ≡ in_component context around v
      → text_meant (subject_of_component r (component r found.definition.now.name) inner flag) ≡ render_component r found.definition.now.name args implicits body flag
  component-runs context inner is made at =
      meant-runs (component r found.definition.now.name) context inner is made at

  visits-run : (o : Option Component) (context : Named Val) (inner : Around) → IsDefined o (Some found) → Builds found.definition.now args value around v (Ok context) → inner ≡ in_component context around v → visits_meant (subject_of_component r o inner flag) ≡ visits_of_component r o args implicits body flag
  visits-run None context inner is made at = absurd is
  visits-run (Some c) context inner is made at =
      let fits = fit-is r caller flag c _ context (builds c (Ok context) is made) in
      let place = at ∙ ap₂ (λ a w. in_component context a w) outer fresh in
      ap (λ (a : Around). visits_meant (subject_of_component r (Some c) a flag)) place
      ∙ ap (visits_within r caller flag c) (sym fits)

  -- and so are its visits
  pub component-visits : (context : Named Val) (inner : Around) → IsDefined (component r found.definition.now.name) (Some found) → Builds found.definition.now args value around v (Ok context) → inner ≡ in_component context around v
      → visits_meant (subject_of_component r (component r found.definition.now.name) inner flag) ≡ component_visits r found.definition.now.name args implicits body flag
  component-visits context inner is made at =
      visits-run (component r found.definition.now.name) context inner is made at

module _ (r : Registry) (name : Name) (args implicits : Named Val) (body : Option Text) (flag : Bool) where
  origin-of : (answer : Result Text Fault) → answer ≡ render_component r name args implicits body flag → IsTrue flag → r.engine.escape ≡ escape_html → Traces (render_component_in marking r name args implicits body flag) answer
  origin-of answer is on by_html = rw is (rw on (components_are_traced r name args implicits body by_html))

  by_name : (answer : Result Text Fault) → answer ≡ render_component r name args implicits body flag → ComponentByName r name args implicits body flag answer
  by_name answer is = record { is = is; origin = origin-of answer is }

  pub renders-component : {X : Type 0} (view : X → Text) (result : Result X SeenError) → Gives view result (render_component r name args implicits body flag) → GivesOneOf view result (ComponentByName r name args implicits body flag)
  renders-component view (Ok x) g = by_name (Ok (view x)) (sym g)
  renders-component view (Err None) g = tt
  renders-component view (Err (Some fault)) g = by_name (Err fault) (sym g)

  -- a component that is not there is refused
  pub no_component : (e : SeenError) → e ≡ Some component_not_found → component r name ≡ None → SaysOneOf e (ComponentByName r name args implicits body flag)
  no_component e is none =
      let P : SeenError → Type 0 = λ x. SaysOneOf x (ComponentByName r name args implicits body flag) in
      subst P (sym is) (by_name (Err component_not_found) (sym (ap (λ o. render_found_component_in plain r o args implicits body flag) none)))

-- what is told of a component that is found
info-of : (o : Option Component) (found : Defined) → IsDefined o (Some found) → option_map (λ c. info_of (definition_of c.signature)) o ≡ Some (info_of found.definition.now)
info-of None found is = absurd is
info-of (Some c) found is = sym (ap (λ (d : Definition). Some (info_of d)) is.given)

pub info-found : (r : Registry) (name : Name) (found : Defined) → IsDefined (component r name) (Some found) → info_at r name ≡ Some (info_of found.definition.now)
info-found r name found is = info-of (component r name) found is

pub info-missing : (r : Registry) (name : Name) → component r name ≡ None → info_at r name ≡ None
info-missing r name none = ap (option_map (λ (c : Component). info_of (definition_of c.signature))) none
