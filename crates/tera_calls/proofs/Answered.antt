-- What the engine's calls answer is what is meant.
use Rattle.std.proofs.Common.{◌≡◌, true, false, IsTrue, Option, Some, None, Result, Ok, Err, refl}
use Rattle.tera_errors.specs.Site.{Text}
use Rattle.tera_errors.specs.Fault.{Fault, message}
use Rattle.tera_errors.specs.Answer.{SeenError, GivesOneOf}
use Rattle.tera_meaning.specs.Registry.{Entry, Registry}
use Rattle.tera_meaning.specs.Resolve.{resolve}
use Rattle.tera_meaning.specs.Rendering.{autoescapes, render_in, render_block_in}
use Rattle.tera_values.specs.Alphabet.{marking}
use Rattle.tera_values.specs.Escape.{escape_html}
use Rattle.tera_meaning.specs.Marks.Origin.{Traces}
use Rattle.tera.specs.Rendering.{AppendsOneOf}
use Rattle.tera_calls.specs.declared.rendering.EngineRendering.{EngineRendering}
use Rattle.tera_calls.specs.declared.rendering.EngineRendering.TheVariants as rendering
use Rattle.tera_calls.specs.declared.rendering.Rendering.{Rendering}
use Rattle.tera_calls.specs.declared.rendering.Rendering.TheVariants as any
use Rattle.tera_calls.specs.Renders.{Answered, Answers, Rendered, Renders, found_escapes}

-- what holds where a template was found and escapes
pub found_escapes-some : (P : Type 0) (r : Registry) (found : Option Entry) → ((t : Entry) → found ≡ Some t → IsTrue (autoescapes r t.0) → P) → IsTrue (found_escapes r found) → P
found_escapes-some P r None origin h = (let q : false ≡ true = h in cc)
found_escapes-some P r (Some t) origin h = origin t refl h

pub Renders-answers : (r : Registry) (call : EngineRendering) (answer : Result Text Fault) → Answers r call answer → Renders r call answer
Renders-answers r (rendering.Template name context) answer h =
    let P : Type 0 = r.engine.escape ≡ escape_html → Traces (render_in marking r name.now context.now) answer in
    record { reading = Err message; read = tt; exact = h.is; origin = found_escapes-some P r (resolve r name.now) h.origin }
Renders-answers r (rendering.Text input context autoescape) answer h =
    record { reading = h.reading; read = h.read; exact = h.is; origin = h.origin }
Renders-answers r (rendering.Block name block context) answer h =
    let P : Type 0 = r.engine.escape ≡ escape_html → Traces (render_block_in marking r name.now block.now context.now) answer in
    record { reading = Err message; read = tt; exact = h.is; origin = found_escapes-some P r (resolve r name.now) h.origin }
Renders-answers r (rendering.Component name args implicits body autoescape) answer h =
    record { reading = Err message; read = tt; exact = h.is; origin = h.origin }

pub Rendered-answered : (r : Registry) (call : Rendering) (answer : Result Text Fault) → Answered r call answer → Rendered r call answer
Rendered-answered r (any.ByEngine call) answer h = Renders-answers r call answer h
Rendered-answered r (any.OneOff input context autoescape) answer h =
    record { reading = h.reading; read = h.read; exact = h.is; origin = h.origin }

-- an answer that one definition gives, another one gives that allows all that the first does
pub GivesOneOf-weaker : {X Y : Type 0} (view : X → Y) (Meant Allowed : Result Y Fault → Type 0) → ((answer : Result Y Fault) → Meant answer → Allowed answer) → (answer : Result X SeenError) → GivesOneOf view answer Meant → GivesOneOf view answer Allowed
GivesOneOf-weaker view Meant Allowed allow (Ok x) h = allow (Ok (view x)) h
GivesOneOf-weaker view Meant Allowed allow (Err None) h = h
GivesOneOf-weaker view Meant Allowed allow (Err (Some fault)) h = allow (Err fault) h

-- the same where what is answered is appended
pub AppendsOneOf-weaker : (Meant Allowed : Result Text Fault → Type 0) → ((answer : Result Text Fault) → Meant answer → Allowed answer) → (result : Result (Unit {0}) SeenError) (before after : Text) → AppendsOneOf result before after Meant → AppendsOneOf result before after Allowed
AppendsOneOf-weaker Meant Allowed allow (Ok u) before after h = (h.0, allow (Ok h.0) h.1, h.2)
AppendsOneOf-weaker Meant Allowed allow (Err None) before after h = h
AppendsOneOf-weaker Meant Allowed allow (Err (Some fault)) before after h = (allow (Err fault) h.0, h.1)
