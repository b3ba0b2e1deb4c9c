-- What callers prove of their own pages by.
use Rattle.std.specs.Prelude.{◌≡◌, Bool, true, Some, Result, Ok}
use Rattle.tera_errors.specs.Site.{Text}
use Rattle.tera_errors.specs.Fault.{Fault}
use Rattle.tera_values.specs.Escape.{escape_html}
use Rattle.tera_values.specs.Val.{Val}
use Rattle.tera_values.specs.Named.{Named}
use Rattle.tera_meaning.specs.Registry.{Registry}
use Rattle.tera.specs.FixedText.{text_rendered, TextMarksNoneSafe, TextHasOwnMarkup}
use Rattle.tera.specs.Rendering.{OneOff}

-- A text beside the registry is answered as it computes.
abbrev pub AnswersAsComputed : Type 0
AnswersAsComputed =
    (r : Registry) (text : Text) (context : Named Val) (autoescape : Bool)
    (meant answer : Result Text Fault)
    → text_rendered r text context autoescape ≡ Some meant
    → OneOff r text context autoescape answer
    → answer ≡ meant

-- Where texts are escaped, and by `escape_html`, and nothing is marked safe, all markup of the page
-- is the text's own.
abbrev pub MarkupIsTheTexts : Type 0
MarkupIsTheTexts =
    (r : Registry) (text : Text) (context : Named Val) (page : Text)
    → r.engine.escape ≡ escape_html → TextMarksNoneSafe r text context
    → OneOff r text context true (Ok page)
    → TextHasOwnMarkup r text context page
