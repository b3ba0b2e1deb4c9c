-- What the rendering calls may answer.
use Rattle.std.specs.Prelude.{◌≡◌, Bool, IsTrue, ◌||◌, ◌++◌, Option, Some, is_some, Result, Ok, Err, if◌then◌else◌}
use Rattle.tera_errors.specs.Site.{Text, Name}
use Rattle.tera_errors.specs.Fault.{Fault, message}
use Rattle.tera_errors.specs.Answer.{SeenError, SaysOneOf}
use Rattle.tera_values.specs.Alphabet.{marking}
use Rattle.tera_values.specs.Escape.{escape_html}
use Rattle.tera_values.specs.Val.{Val}
use Rattle.tera_values.specs.Named.{Named}
use Rattle.tera_syntax_tree.specs.Tree.{Tree}
use Rattle.tera_syntax.specs.Reads.{Reads}
use Rattle.tera_meaning.specs.Registry.{Entry, Registry}
use Rattle.tera_meaning.specs.Components.{one_off_name}
use Rattle.tera_meaning.specs.Resolve.{resolve}
pub use Rattle.tera_meaning.specs.Rendering.{autoescapes, has_a_block, render, render_in, render_block, render_block_in, render_component, render_component_in, render_str, render_str_in}
use Rattle.tera_meaning.specs.Marks.Origin.{Traces}

-- whether a text may be rendered beside the registry: it extends no template and has no block
abbrev pub allowed : Tree → Result (Unit {0}) Fault
allowed tree = if is_some tree.parent || has_a_block tree.nodes then Err message else Ok tt

-- what the rendering of a text beside the registry may answer: what its tree means, and where texts
-- are escaped, by `escape_html`, no markup but from template text or a value marked safe. Only the
-- place of a syntax error is left open
pub record OneOff (r : Registry) (text : Text) (context : Named Val) (autoescape : Bool)
    (answer : Result Text Fault) : Type 0 where
  pub reading : Result Tree Fault
  pub read : Reads one_off_name r.delimiters text reading
  pub is : answer ≡ render_str r reading context autoescape
  pub origin : IsTrue autoescape → r.engine.escape ≡ escape_html
      → Traces (render_str_in marking r reading context autoescape) answer

-- what the rendering of a template may answer: what it means, and where it escapes,
-- by `escape_html`, no markup but from template text or a value marked safe
pub record ByName (r : Registry) (name : Name) (context : Named Val)
    (answer : Result Text Fault) : Type 0 where
  pub is : answer ≡ render r name context
  pub origin : (t : Entry) → resolve r name ≡ Some t → IsTrue (autoescapes r t.0)
      → r.engine.escape ≡ escape_html → Traces (render_in marking r name context) answer

-- what the rendering of a block may answer, likewise
pub record BlockByName (r : Registry) (name block : Name) (context : Named Val)
    (answer : Result Text Fault) : Type 0 where
  pub is : answer ≡ render_block r name block context
  pub origin : (t : Entry) → resolve r name ≡ Some t → IsTrue (autoescapes r t.0)
      → r.engine.escape ≡ escape_html → Traces (render_block_in marking r name block context) answer

-- what the rendering of a component may answer: what it means with these arguments, implicits and
-- body, and where texts are escaped, by `escape_html`, no markup but from template text or a value
-- marked safe, as the body is
pub record ComponentByName (r : Registry) (name : Name) (args implicits : Named Val)
    (body : Option Text) (autoescape : Bool) (answer : Result Text Fault) : Type 0 where
  pub is : answer ≡ render_component r name args implicits body autoescape
  pub origin : IsTrue autoescape → r.engine.escape ≡ escape_html
      → Traces (render_component_in marking r name args implicits body autoescape) answer

-- how a call ends that appends what it renders to these bytes: they are followed by the text,
-- or are as before
abbrev pub AppendsOneOf : Result (Unit {0}) SeenError → Text → Text
    → (Result Text Fault → Type 0) → Type 0
AppendsOneOf (Ok u) before after Meant = (text : Text) × Meant (Ok text) × (after ≡ before ++ text)
AppendsOneOf (Err e) before after Meant = SaysOneOf e Meant × (after ≡ before)
