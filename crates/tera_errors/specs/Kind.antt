-- What a contract sees of an error and of its kind.
use Rattle.std.specs.Prelude.{Option, Some, None, Bool, true, false, ℕ, unwrap_or}
use Rattle.tera_errors.specs.Fault.{Fault, syntax_error, message, rendering_error, circular_extend, circular_include, missing_parent, template_not_found, component_not_found, invalid_argument, missing_argument}
use Rattle.tera_errors.specs.declared.error.ErrorKind.{ErrorKind}
use Rattle.tera_errors.specs.declared.error.ErrorKind.TheVariants as kind

-- the fault that an error tells; want of memory is none
abbrev pub fault_of : ErrorKind → Option Fault
fault_of (kind.SyntaxError report) = Some (syntax_error report.site)
fault_of (kind.Message text) = Some message
fault_of (kind.RenderingError report) = Some (rendering_error report.site)
fault_of kind.CircularExtend = Some circular_extend
fault_of kind.CircularInclude = Some circular_include
fault_of kind.MissingParent = Some missing_parent
fault_of kind.TemplateNotFound = Some template_not_found
fault_of kind.ComponentNotFound = Some component_not_found
fault_of kind.InvalidArgument = Some invalid_argument
fault_of kind.MissingArgument = Some missing_argument
fault_of kind.OutOfMemory = None

-- the same of the kind that an error holds: a report may be words beside a kind that has none
abbrev pub fault_held : ErrorKind → Option Fault
fault_held (kind.RenderingError report) = unwrap_or report.beside (Some (rendering_error report.site))
fault_held kind = fault_of kind

-- whether a kind has no report
abbrev pub is_bare : ErrorKind → Bool
is_bare (kind.SyntaxError report) = false
is_bare (kind.RenderingError report) = false
is_bare other = true

abbrev pub is_bare_if_any : Option ErrorKind → Bool
is_bare_if_any None = true
is_bare_if_any (Some other) = is_bare other

-- how many kinds a report holds
abbrev pub kinds_held : Option (Option Fault) → ℕ
kinds_held None = 0
kinds_held (Some seen) = 1
