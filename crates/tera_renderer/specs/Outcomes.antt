-- What calls make, and what is told of that in numbers.
use Rattle.std.specs.Prelude.{◌≡◌, ℕ, ◌++◌, nat_lt, cond, List, [], ◌∷◌, length, map, drop, String, string_bytes, Vec, Option, Some, None, Result, Ok, Err}
use Rattle.std.specs.Global.{Global}
use Rattle.std.specs.List.{slice_get}
use Rattle.tera.specs.Site.{Site, Text}
use Rattle.tera.specs.Fault.{syntax_error, message, rendering_error, circular_extend, circular_include, missing_parent, template_not_found, component_not_found, invalid_argument, missing_argument}
use Rattle.tera.specs.Answer.{SeenError}
use Rattle.tera_renderer.specs.declared.answer.Answer.{Answer}
use Rattle.tera_renderer.specs.declared.report.Report.{Report}
use Rattle.tera_renderer.specs.declared.output.CallOutput.{CallOutput}
use Rattle.tera_renderer.specs.declared.output.CallOutput.TheVariants as output

-- what a call made, or why it made nothing
abbrev pub Outcome : Type 0
Outcome = Result CallOutput SeenError

-- the texts of an output, in their order
abbrev pub texts_in : CallOutput → List Text
texts_in output.Nothing = []
texts_in (output.Text t) = string_bytes t ∷ []
texts_in (output.Names ns) = map string_bytes ns.items

-- the bytes of a text, or the number of names
abbrev pub size_of : CallOutput → ℕ
size_of output.Nothing = 0
size_of (output.Text t) = length (string_bytes t)
size_of (output.Names ns) = length ns.items

abbrev pub answer : ℕ → ℕ → Answer
answer status size = record { status = status; size = size }

-- 0 where it is done, 1 for a fault, and 2 where memory was refused
abbrev pub told : Outcome → Answer
told (Ok output) = answer 0 (size_of output)
told (Err (Some fault)) = answer 1 0
told (Err None) = answer 2 0

-- what is left of calls that have nothing to hand out, of those that make a text, and names
abbrev pub done : Result (Unit {0}) SeenError → Outcome
done (Ok u) = Ok output.Nothing
done (Err e) = Err e

abbrev pub one_text : Result (String Global) SeenError → Outcome
one_text (Ok t) = Ok (output.Text t)
one_text (Err e) = Err e

abbrev pub all_names : Result (Vec (String Global) Global) SeenError → Outcome
all_names (Ok ns) = Ok (output.Names ns)
all_names (Err e) = Err e

-- the text, or the name, in this place of an outcome
abbrev pub text_at : Outcome → ℕ → Option Text
text_at (Ok output) i = slice_get (texts_in output) i
text_at (Err e) i = None

-- A text that is copied into this room, and the room then: a room that is too small stays, and the
-- size that is wanted is told; so does the room where there is no text.
abbrev pub copied : Option Text → List ℕ → Answer × List ℕ
copied None room = (answer 5 0, room)
copied (Some text) room =
    cond (nat_lt (length room) (length text)) (answer 4 (length text), room)
    (answer 0 (length text), text ++ drop (length text) room)

-- the same of what was made at once, or told why not
abbrev pub copied_or_told : Result Text SeenError → List ℕ → Answer × List ℕ
copied_or_told (Ok text) room = copied (Some text) room
copied_or_told (Err (Some fault)) room = (answer 1 0, room)
copied_or_told (Err None) room = (answer 2 0, room)

-- the kind of an error in numbers
abbrev pub kind_number : SeenError → ℕ
kind_number (Some (syntax_error site)) = 1
kind_number (Some message) = 2
kind_number (Some (rendering_error site)) = 3
kind_number (Some circular_extend) = 4
kind_number (Some circular_include) = 5
kind_number (Some missing_parent) = 6
kind_number (Some template_not_found) = 7
kind_number (Some component_not_found) = 8
kind_number (Some invalid_argument) = 9
kind_number (Some missing_argument) = 10
kind_number None = 11

-- where it lies, for the kinds that have a place
abbrev pub site_of : SeenError → Option Site
site_of (Some (syntax_error site)) = Some site
site_of (Some message) = None
site_of (Some (rendering_error site)) = Some site
site_of (Some circular_extend) = None
site_of (Some circular_include) = None
site_of (Some missing_parent) = None
site_of (Some template_not_found) = None
site_of (Some component_not_found) = None
site_of (Some invalid_argument) = None
site_of (Some missing_argument) = None
site_of None = None

-- the numbers of a place; its line and its column are left open
abbrev pub TellsPlace : Option Site → Report → Type 0
TellsPlace None report =
    (report.has_span ≡ 0) × (report.start ≡ 0) × (report.end ≡ 0)
    × (report.line ≡ 0) × (report.column ≡ 0)
TellsPlace (Some site) report =
    (report.has_span ≡ 1) × (report.start ≡ site.span.start) × (report.end ≡ site.span.end)

-- what is told in numbers of what the last call came to
abbrev pub TellsOf : Outcome → Report → Type 0
TellsOf (Ok output) report = (report.kind ≡ 0) × TellsPlace None report
TellsOf (Err e) report = (report.kind ≡ kind_number e) × TellsPlace (site_of e) report

abbrev pub file_in : Option Site → Option Text
file_in None = None
file_in (Some site) = Some site.file

-- the file that an error lies in
abbrev pub file_of : Outcome → Option Text
file_of (Ok output) = None
file_of (Err e) = file_in (site_of e)
