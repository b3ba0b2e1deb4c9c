-- What the filters of the example mean.
use Rattle.std.specs.Prelude.{false, ◌++◌, Result, Ok, Err}
use Rattle.tera.specs.Fault.{Fault, invalid_argument}
use Rattle.tera.specs.Val.{Val, text}

abbrev pub twice : Val → Result Val Fault
twice (text t safe) = Ok (text (t ++ t) false)
twice v = Err invalid_argument
