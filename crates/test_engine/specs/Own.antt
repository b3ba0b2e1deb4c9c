-- What objects of the tests mean.
use Rattle.std.specs.Prelude.{false, codes, cond, [], Result, Ok}
use Rattle.tera_errors.specs.Site.{Text}
use Rattle.tera_errors.specs.Fault.{Fault, invalid_argument, missing_argument, message, template_not_found}
use Rattle.tera_values.specs.Alphabet.{plain}
use Rattle.tera_values.specs.Access.{is_undefined}
use Rattle.tera_values.specs.Arguments.{read_needed}
use Rattle.tera_values.specs.Named.{Named, at_name}
use Rattle.tera_values.specs.Val.{Val, text}
use Rattle.tera_built_ins.specs.Filters.{filter_in}
use Rattle.tera_built_ins.specs.Replace.{replaced}
use Rattle.tera_operators.specs.Operand.{then}
use Rattle.tera_state.specs.View.{View, escaping_in, escaped_if_needed}
use Rattle.test_engine.specs.declared.own.RefusalKind.{RefusalKind}
use Rattle.test_engine.specs.declared.own.RefusalKind.TheVariants as refusal

-- with what an object refuses; where it says that memory is lacking, any fault may stand here
abbrev pub fault_of : RefusalKind → Fault
fault_of refusal.InvalidArgument = invalid_argument
fault_of refusal.MissingArgument = missing_argument
fault_of refusal.TemplateNotFound = template_not_found
fault_of other = message

-- a value, and for undefined a dash
abbrev pub shown : Val → Val
shown v = cond (is_undefined v) (text (codes "-") false) v

-- what the built-in filter `trim` makes of a value, where it is there
abbrev pub trimmed_by : View → Val → Result Val Fault
trimmed_by view v = filter_in plain (escaping_in view) (view.filters (codes "trim")) v []

-- what is written for an argument
abbrev pub written_text : Named Val → View → Result Val Fault
written_text given view =
    then (read_needed (λ v. Ok v) (at_name (codes "text") given)) (λ v.
    then (escaped_if_needed view v) (λ t. Ok (text t false)))

-- a text with `?` for each `a`
abbrev pub asked : Text → Text
asked t = replaced plain.code (codes "a") (codes "?") t
