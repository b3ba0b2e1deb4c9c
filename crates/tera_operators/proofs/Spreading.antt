-- An array that is written out, item by item from the left.
use Rattle.std.proofs.Common.{List, ◌++◌, Option, Some, None, Result, Ok, Err}
use Rattle.tera_errors.specs.declared.span.Span.{Span}
use Rattle.tera_errors.specs.Site.{Name}
use Rattle.tera_errors.specs.Fault.{Fault}
use Rattle.tera_values.specs.Val.{Val}
use Rattle.tera_operators.specs.Operand.{fault_at}

-- the items so far and the last spread that was no array, before what the rest gives
abbrev pub finish : Name → List Val → Option Span → Result (List Val) Fault → Result (List Val) Fault
finish file acc unfit (Err f) = Err f
finish file acc None (Ok rest) = Ok (acc ++ rest)
finish file acc (Some position) (Ok rest) = fault_at file position
