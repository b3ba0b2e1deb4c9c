-- By what texts are escaped, and what a built-in sees of a rendering.
use Rattle.std.specs.Prelude.{Bool, List, Option, Some, None, Result}
use Rattle.tera_errors.specs.Site.{Text}
use Rattle.tera_errors.specs.Fault.{Fault}
use Rattle.tera_values.specs.Alphabet.{Alphabet, escaped}
use Rattle.tera_values.specs.Escape.{escape_html}
use Rattle.tera_values.specs.Named.{Named}
use Rattle.tera_values.specs.Val.{Val}
use Rattle.tera_built_ins.specs.declared.escape_fn.Escaping as declared
use Rattle.tera_built_ins.specs.declared.escape_fn.Filtering as filtering

-- whether texts are escaped, and how
pub record Escaping : Type 0 where
  pub autoescape : Bool
  pub escape : Text → Text

-- an escape that is left out is that of HTML
abbrev pub escape_or_html : {E : Type 0} → (E → Text → Text) → Option E → Text → Text
escape_or_html meaning None = escape_html
escape_or_html meaning (Some e) = meaning e

-- what is lent, where escapes have these meanings
abbrev pub escaping_of : {E : Type 0} → (E → Text → Text) → declared.Escaping E → Escaping
escaping_of meaning e = record { autoescape = e.autoescape; escape = meaning e.escape.now }

-- what a filter makes of what it is given, where escapes have these meanings
abbrev pub applied : {E : Type 0} → (E → Text → Text)
    → (Escaping → Val → Named Val → Result Val Fault) → filtering.Filtering E → Result Val Fault
applied meaning filter f = filter (escaping_of meaning f.escaping) f.value.now f.arguments.now

-- the escape of a text: nothing else in a built-in escapes
abbrev pub escape_of : {C : Type 0} → Alphabet C → Escaping → List C → List C
escape_of a view t = a.spelled escaped (view.escape (a.seen t))
