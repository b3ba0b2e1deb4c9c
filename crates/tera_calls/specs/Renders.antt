-- What a rendering may answer.
use Rattle.std.specs.Prelude.{◌≡◌, Bool, false, IsTrue, List, Option, Some, None, Result}
use Rattle.tera_errors.specs.Site.{Text}
use Rattle.tera_errors.specs.Fault.{Fault}
use Rattle.tera_values.specs.Alphabet.{Alphabet, plain, marking}
use Rattle.tera_values.specs.Escape.{escape_html}
use Rattle.tera_syntax_tree.specs.Tree.{Tree}
use Rattle.tera_syntax.specs.Reads.{Reads}
use Rattle.tera_meaning.specs.Registry.{Entry, Registry, new_registry}
use Rattle.tera_meaning.specs.Resolve.{resolve}
use Rattle.tera_meaning.specs.Components.{one_off_name}
use Rattle.tera_meaning.specs.Rendering.{autoescapes, render_in, render_str_in, render_block_in, render_component_in}
use Rattle.tera_meaning.specs.Marks.Origin.{Traces}
use Rattle.tera.specs.Lent.{lent_text}
use Rattle.tera.specs.Rendering.{OneOff, ByName, BlockByName, ComponentByName}
use Rattle.tera_calls.specs.declared.rendering.EngineRendering.{EngineRendering}
use Rattle.tera_calls.specs.declared.rendering.EngineRendering.TheVariants as rendering
use Rattle.tera_calls.specs.declared.rendering.Rendering.{Rendering}
use Rattle.tera_calls.specs.declared.rendering.Rendering.TheVariants as any

-- What the reader may answer of a text beside the registry: its tree, or its syntax error.
-- Nothing else is read.
abbrev pub IsReading : Registry → EngineRendering → Result Tree Fault → Type 0
IsReading r (rendering.Template name context) reading = Unit {0}
IsReading r (rendering.Text input context autoescape) reading =
    Reads one_off_name r.delimiters input.now reading
IsReading r (rendering.Block name block context) reading = Unit {0}
IsReading r (rendering.Component name args implicits body autoescape) reading = Unit {0}

-- the recursive meaning of a rendering, at characters of any type
module _ {C : Type 0} (alphabet : Alphabet C) where
  abbrev pub meaning_in : Registry → Result Tree Fault → EngineRendering → Result (List C) Fault
  meaning_in r reading (rendering.Template name context) = render_in alphabet r name.now context.now
  meaning_in r reading (rendering.Text input context autoescape) =
      render_str_in alphabet r reading context.now autoescape
  meaning_in r reading (rendering.Block name block context) =
      render_block_in alphabet r name.now block.now context.now
  meaning_in r reading (rendering.Component name args implicits body autoescape) =
      render_component_in alphabet r name.now args.now implicits.now (lent_text body) autoescape

-- of bytes: the text, or the fault with its kind, and its file and span where it has them
abbrev pub meaning : Registry → Result Tree Fault → EngineRendering → Result Text Fault
meaning = meaning_in plain

-- whether texts are escaped in a template that was found
abbrev pub found_escapes : Registry → Option Entry → Bool
found_escapes r None = false
found_escapes r (Some t) = autoescapes r t.0

-- whether texts are escaped in a rendering: as the name of its template says, or else its caller
abbrev pub escapes : Registry → EngineRendering → Bool
escapes r (rendering.Template name context) = found_escapes r (resolve r name.now)
escapes r (rendering.Text input context autoescape) = autoescape
escapes r (rendering.Block name block context) = found_escapes r (resolve r name.now)
escapes r (rendering.Component name args implicits body autoescape) = autoescape

-- What a rendering may answer: exactly what it means; and where texts are escaped, by
-- `escape_html`, the meaning at marked characters is that answer with its marks, in which each of
-- < > " ' comes from template text or a value marked safe.
pub record Renders (r : Registry) (call : EngineRendering)
    (answer : Result Text Fault) : Type 0 where
  pub reading : Result Tree Fault
  pub read : IsReading r call reading
  pub exact : answer ≡ meaning r reading call
  pub origin : IsTrue (escapes r call) → r.engine.escape ≡ escape_html
      → Traces (meaning_in marking r reading call) answer

-- What any call that renders may answer. A one-off text is one of a new engine.
abbrev pub Rendered : Registry → Rendering → Result Text Fault → Type 0
Rendered r (any.ByEngine call) = Renders r call
Rendered r (any.OneOff input context autoescape) =
    Renders new_registry (rendering.Text input context autoescape)

-- the same, as the engine's own calls say it
abbrev pub Answers : Registry → EngineRendering → Result Text Fault → Type 0
Answers r (rendering.Template name context) = ByName r name.now context.now
Answers r (rendering.Text input context autoescape) = OneOff r input.now context.now autoescape
Answers r (rendering.Block name block context) = BlockByName r name.now block.now context.now
Answers r (rendering.Component name args implicits body autoescape) =
    ComponentByName r name.now args.now implicits.now (lent_text body) autoescape

abbrev pub Answered : Registry → Rendering → Result Text Fault → Type 0
Answered r (any.ByEngine call) = Answers r call
Answered r (any.OneOff input context autoescape) =
    OneOff new_registry input.now context.now autoescape
