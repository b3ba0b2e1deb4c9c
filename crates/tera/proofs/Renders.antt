-- A rendering beside the registry, from what the reader answered.
use Rattle.std.proofs.Common.{◌≡◌, Bool, true, false, ◌||◌, IsTrue, Some, None, is_some, Result, Ok, Err, if◌then◌else◌, [], refl, sym, ap, ◌∙◌}
use Rattle.tera_errors.specs.Site.{Text}
use Rattle.tera_errors.specs.Fault.{Fault, message}
use Rattle.tera_errors.specs.Answer.{SeenError, Says, Tells, Gives, GivesOneOf, SaysOneOf}
use Rattle.tera_values.specs.Alphabet.{marking}
use Rattle.tera_values.specs.Escape.{escape_html}
use Rattle.tera_values.specs.Val.{Val}
use Rattle.tera_values.specs.Named.{Named}
use Rattle.tera_syntax_tree.specs.Tree.{Tree}
use Rattle.tera_syntax.specs.Reads.{Reads}
use Rattle.tera_state.specs.Scope.{Variables, nothing_set}
use Rattle.tera_meaning.specs.Run.{Signal, Answer, Failed, Gave, begun}
use Rattle.tera_meaning.specs.Registry.{Registry}
use Rattle.tera_meaning.specs.Known.{lacks_a_callee}
use Rattle.tera_meaning.specs.Components.{one_off_name}
use Rattle.tera_machine.specs.Config.{Config, config_of, starting}
use Rattle.tera_machine.specs.Subject.{Subject, meant, meant_from, Means}
use Rattle.tera_machine.specs.declared.configuration.Configuration.{Configuration}
use Rattle.tera.specs.Registry.{subject_beside, text_meant, tree_beside, one_off_meant}
use Rattle.tera.specs.Rendering.{OneOff, allowed}
use Rattle.tera_meaning.specs.Rendering.{has_a_block, knows_in, text_of, one_off_text, render_str, render_str_in}
use Rattle.tera_meaning.specs.Marks.Origin.{Traces}
use Rattle.tera_meaning.proofs.Marks.Traced.{markup_is_traced}

-- an answer that is no fault
abbrev pub fine : {A : Type 0} → A → Result A Fault
fine a = Ok a

pub same_ok : {A : Type 0} (a b : A) → fine a ≡ fine b → a ≡ b
same_ok a b e = cc

-- what a body means where nothing was written or set yet
pub begins-means : (about : Subject) (c : Configuration) (v : Variables) → config_of c ≡ starting (begun v) → v ≡ nothing_set → meant_from about c ≡ meant about (begun nothing_set)
begins-means about c v starts empty = ap (λ x. meant about x.run) starts ∙ ap (λ w. meant about (begun w)) empty

-- the fault that a run ends with is the answer
pub fault-means : (meant : Answer Signal) (e : SeenError) (before after : Config) → Means meant before (Err e) after → Says e (text_of meant)
fault-means (Gave signal run n) None before after h = tt
fault-means (Gave signal run n) (Some fault) before after h = absurd h
fault-means (Failed meant n) None before after h = tt
fault-means (Failed meant n) (Some fault) before after h = ap Err (sym h)

-- a run that ends leaves no capture open
pub nothing-captured : (meant : Answer Signal) (u : Unit {0}) (before after : Config) → before.captures ≡ [] → Means meant before (Ok u) after → after.captures ≡ []
nothing-captured (Gave signal run n) u before after none h = ap (λ (c : Config). c.captures) h ∙ none
nothing-captured (Failed meant n) u before after none h = absurd h

-- what is barred is refused, in place of any text that is meant
barred-says : (b : Bool) (e : SeenError) (meant : Result Text Fault) → (let done : Result (Unit {0}) Fault = if b then Err message else Ok tt in Says e done) → Says e (if b then Err message else meant)
barred-says b None meant h = tt
barred-says true (Some fault) meant h = (let q : (let done : Result (Unit {0}) Fault = Err message in done ≡ Err fault) = h in cc)
barred-says false (Some fault) meant h = (let q : Ok tt ≡ Err fault = h in cc)

free-gives : {X : Type 0} (view : X → Text) (result : Result X SeenError) (b : Bool) (meant : Result Text Fault) → (let done : Result (Unit {0}) Fault = if b then Err message else Ok tt in done ≡ Ok tt) → Gives view result meant
    → Gives view result (if b then Err message else meant)
free-gives view result true meant h g = (let q : Err message ≡ Ok tt = h in cc)
free-gives view result false meant h g = g

pub told-says : {Y : Type 0} (e : SeenError) (done : Result Y Fault) → Tells e message → done ≡ Err message → Says e done
told-says None done t h = tt
told-says (Some fault) done t h = h ∙ ap Err (sym t)

abbrev unless : Bool → Result Text Fault → Result Text Fault
unless b meant = if b then Err message else meant

-- nodes that call what is not there are refused
pub lacking-says : (s : Subject) (e : SeenError) → lacks_a_callee (knows_in s.world) (tree_beside s) ≡ true → Tells e message → Says e (one_off_meant s)
lacking-says s e lacks t =
    told-says e (one_off_meant s) t (ap (λ b. unless b (text_meant s)) lacks)

-- any others are rendered
pub nothing-missing : (s : Subject) → lacks_a_callee (knows_in s.world) (tree_beside s) ≡ false → text_meant s ≡ one_off_meant s
nothing-missing s known = sym (ap (λ b. unless b (text_meant s)) known)

-- what is meant beside the registry is what its tree means
pub beside-means : (r : Registry) (tree : Tree) (context : Named Val) (autoescape : Bool) → one_off_meant (subject_beside r tree context autoescape) ≡ one_off_text r tree context autoescape
beside-means r tree context autoescape = refl

module _ (r : Registry) (text : Text) (context : Named Val) where
  -- the law, where the answer is what the reading means
  origin-of : (reading : Result Tree Fault) (answer : Result Text Fault) (autoescape : Bool) → answer ≡ render_str r reading context autoescape → IsTrue autoescape → r.engine.escape ≡ escape_html → Traces (render_str_in marking r reading context autoescape) answer
  origin-of reading answer autoescape e on by_html = rw e (rw on (markup_is_traced r reading context by_html))

  means : (reading : Result Tree Fault) (answer : Result Text Fault) (autoescape : Bool) → Reads one_off_name r.delimiters text reading → answer ≡ render_str r reading context autoescape → OneOff r text context autoescape answer
  means reading answer autoescape h e =
      record { reading = reading; read = h; is = e; origin = origin-of reading answer autoescape e }

  -- the reader's refusal is the answer
  pub refused : {X : Type 0} (view : X → Text) (autoescape : Bool) (e : SeenError) → SaysOneOf e (Reads one_off_name r.delimiters text) → GivesOneOf view (Err e) (OneOff r text context autoescape)
  refused view autoescape None h = tt
  refused view autoescape (Some fault) h = means (Err fault) _ autoescape h refl

  -- and so is what its tree answers
  answered : {X : Type 0} (view : X → Text) (autoescape : Bool) (tree : Tree) (result : Result X SeenError) → Reads one_off_name r.delimiters text (Ok tree) → Gives view result (render_str r (Ok tree) context autoescape) → GivesOneOf view result (OneOff r text context autoescape)
  answered view autoescape tree (Ok x) h g = means (Ok tree) _ autoescape h (sym g)
  answered view autoescape tree (Err None) h g = tt
  answered view autoescape tree (Err (Some fault)) h g = means (Ok tree) _ autoescape h (sym g)

  -- a text that may not be rendered is refused
  pub refused-tree : {X : Type 0} (view : X → Text) (autoescape : Bool) (tree : Tree) (e : SeenError) → Reads one_off_name r.delimiters text (Ok tree) → Says e (allowed tree)
      → GivesOneOf view (Err e) (OneOff r text context autoescape)
  refused-tree view autoescape tree e h says =
      answered view autoescape tree (Err e) h (barred-says (is_some tree.parent || has_a_block tree.nodes) e (one_off_text r tree context autoescape) says)

  -- any other is rendered
  pub rendered : {X : Type 0} (view : X → Text) (autoescape : Bool) (tree : Tree) (result : Result X SeenError) → Reads one_off_name r.delimiters text (Ok tree) → allowed tree ≡ Ok tt
      → Gives view result (one_off_text r tree context autoescape) → GivesOneOf view result (OneOff r text context autoescape)
  rendered view autoescape tree result h allows g =
      answered view autoescape tree result h (free-gives view result (is_some tree.parent || has_a_block tree.nodes) (one_off_text r tree context autoescape) allows g)
