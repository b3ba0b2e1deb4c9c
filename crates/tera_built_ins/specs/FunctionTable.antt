-- The functions that every engine has.
use Rattle.std.specs.Prelude.{[], ◌∷◌, Option, Some, None, Result, Err, codes}
use Rattle.tera_errors.specs.Site.{Name}
use Rattle.tera_errors.specs.Fault.{Fault, message}
use Rattle.tera_values.specs.Val.{ValOf}
use Rattle.tera_values.specs.Alphabet.{Alphabet}
use Rattle.tera_values.specs.Named.{Named, at_name}
use Rattle.tera_built_ins.specs.declared.built_in_function.BuiltInFunction.{BuiltInFunction}
use Rattle.tera_built_ins.specs.declared.built_in_function.BuiltInFunction.TheVariants as function
use Rattle.tera_built_ins.specs.Functions.{range_of, throw_of}

-- their names
abbrev pub functions : Named BuiltInFunction
functions =
    (codes "range", function.Range)
    ∷ (codes "throw", function.Throw)
    ∷ []

abbrev pub function_named : Name → Option BuiltInFunction
function_named n = at_name n functions

module _ {C : Type 0} (alphabet : Alphabet C) where
  -- what a function makes of arguments
  abbrev pub function_of : BuiltInFunction → Named (ValOf C) → Result (ValOf C) Fault
  function_of function.Range given = range_of given
  function_of function.Throw given = throw_of given

  abbrev pub function_in : Option BuiltInFunction → Named (ValOf C) → Result (ValOf C) Fault
  function_in None given = Err message
  function_in (Some called) given = function_of called given

  -- by its name, and a fault where no function has that
  abbrev pub called_in : Name → Named (ValOf C) → Result (ValOf C) Fault
  called_in n given = function_in (function_named n) given
