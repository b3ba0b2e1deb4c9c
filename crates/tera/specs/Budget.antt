-- What the rendering calls within a budget of steps answer.
use Rattle.std.specs.Prelude.{ℕ, ◌*◌, ◌<◌, Bool, true, false, Option, Some, None, option_map, Result, Ok, Err}
use Rattle.tera_errors.specs.Site.{Text, Name}
use Rattle.tera_errors.specs.Fault.{Fault}
use Rattle.tera_errors.specs.Answer.{SeenError, SaysOneOf}
use Rattle.tera_values.specs.Alphabet.{plain}
use Rattle.tera_values.specs.Val.{Val, text}
use Rattle.tera_values.specs.Named.{Named}
use Rattle.tera_syntax_tree.specs.Tree.{Tree}
use Rattle.tera_syntax.specs.Reads.{Reads}
use Rattle.tera_state.specs.Scope.{Around, in_component, look_implicit, nothing_set}
use Rattle.tera_components.specs.Context.{component_context}
use Rattle.tera_meaning.specs.Run.{begun, visits_of}
use Rattle.tera_meaning.specs.Registry.{Entry, Registry}
use Rattle.tera_meaning.specs.Resolve.{resolve}
use Rattle.tera_meaning.specs.Components.{Component, component, one_off_name}
use Rattle.tera_meaning.specs.Whole.{meaning_in, place_of_component}
use Rattle.tera_meaning.specs.Rendering.{alone, outermost, one_off_meaning, template_meaning}
use Rattle.tera_machine.specs.Subject.{Subject, meant}

-- the visits of what a body means where it begins a rendering
abbrev pub visits_meant : Subject → ℕ
visits_meant s = visits_of (meant s (begun nothing_set))

-- where there is no template nothing is visited
abbrev pub visits_of_entry : Registry → Option Entry → Named Val → ℕ
visits_of_entry r None context = 0
visits_of_entry r (Some t) context = visits_of (template_meaning r t context)

-- the visits of what the template means to which a name resolves
abbrev pub template_visits : Registry → Name → Named Val → ℕ
template_visits r name context = visits_of_entry r (resolve r name) context

-- where its arguments do not fit nothing of a component is visited
abbrev pub visits_within : Registry → Around → Bool → Component → Option (Named Val) → ℕ
visits_within r caller autoescape c None = 0
visits_within r caller autoescape c (Some context) =
    visits_of (meaning_in plain (alone r)
    (place_of_component (in_component context caller nothing_set) autoescape 0 c.file)
    nothing_set c.body)

abbrev pub visits_of_component : Registry → Option Component → Named Val → Named Val → Option Text
    → Bool → ℕ
visits_of_component r None given implicits body autoescape = 0
visits_of_component r (Some c) given implicits body autoescape =
    let caller = outermost r implicits in
    visits_within r caller autoescape c
    (component_context c.signature given (option_map (λ t. text t true) body)
    (λ name. look_implicit name caller nothing_set))

-- the visits of what the component of a name means with these arguments, implicits and body
abbrev pub component_visits : Registry → Name → Named Val → Named Val → Option Text → Bool → ℕ
component_visits r name given implicits body autoescape =
    visits_of_component r (component r name) given implicits body autoescape

-- eight times the visits of what a text means, by its tree, are more than so many
pub record TextTakesMore (r : Registry) (text : Text) (context : Named Val) (autoescape : Bool)
    (steps : ℕ) : Type 0 where
  pub tree : Tree
  pub read : Reads one_off_name r.delimiters text (Ok tree)
  pub more : steps < 8 * visits_of (one_off_meaning r tree context autoescape)

-- an answer, or none where the steps are spent
abbrev pub unless : {X E : Type 0} → Bool → Result X E → Result (Option X) E
unless true answer = Ok None
unless false (Ok x) = Ok (Some x)
unless false (Err e) = Err e

-- what is given is one of the answers that are meant, and a fault too, unless memory was refused; and
-- nothing is given only where the budget is exceeded, as it says
abbrev pub GivesWithin : {X Y : Type 0} → (X → Y) → Result (Option X) SeenError
    → (Result Y Fault → Type 0) → Type 0 → Type 0
GivesWithin view (Ok (Some x)) Meant Exceeded = Meant (Ok (view x))
GivesWithin view (Ok None) Meant Exceeded = Exceeded
GivesWithin view (Err e) Meant Exceeded = SaysOneOf e Meant
