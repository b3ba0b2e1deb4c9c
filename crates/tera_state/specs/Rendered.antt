-- The text that a value is rendered as.
use Rattle.std.specs.Prelude.{◌||◌, Bool, List, not, if◌then◌else◌}
use Rattle.tera_errors.specs.Site.{Text}
use Rattle.tera_values.specs.Alphabet.{Alphabet, plain, escaped}
use Rattle.tera_values.specs.Val.{Val, ValOf}
use Rattle.tera_values.specs.Access.{is_safe}
use Rattle.tera_values.specs.Printed.{printed_of}
use Rattle.tera_built_ins.specs.Escaping.{Escaping}

-- the printed text where text is not escaped or the value is safe, and else the escape of that text
abbrev pub rendered_in : {C : Type 0} → Alphabet C → Bool → (Text → Text) → ValOf C → List C
rendered_in a autoescape escape v =
    if not autoescape || is_safe v then printed_of a v
    else a.spelled escaped (escape (a.seen (printed_of a v)))

abbrev pub rendered : Bool → (Text → Text) → Val → Text
rendered = rendered_in plain

abbrev pub written_by : Escaping → Val → Text
written_by escaping = rendered escaping.autoescape escaping.escape
