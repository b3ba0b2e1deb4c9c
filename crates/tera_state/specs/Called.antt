-- What calls make of values.
use Rattle.std.specs.Prelude.{Bool, Result}
use Rattle.tera_errors.specs.Fault.{Fault}
use Rattle.tera_values.specs.Alphabet.{plain}
use Rattle.tera_values.specs.Val.{Val}
use Rattle.tera_state.specs.Scopes.{around_of, variables_of}
use Rattle.tera_state.specs.View.{View}
use Rattle.tera_state.specs.Engine.{Engine}
use Rattle.tera_state.specs.Calling.{seen_in, filtered_by, tested_by, called_by}
use Rattle.tera_state.specs.declared.objects.object_call.ObjectCall.{ObjectCall}

module _ (engine : Engine) (call : ObjectCall) where
  -- what an object of the caller sees where the call stands
  abbrev pub seen : View
  seen =
      seen_in plain engine (around_of call.scopes.now)
      (variables_of call.scopes.now) call.autoescape

  -- what the filter, the test and the function of its name make of its arguments
  abbrev pub filtered : Val → Result Val Fault
  filtered v = filtered_by plain engine seen call.name.now v call.arguments

  abbrev pub tested : Val → Result Bool Fault
  tested v = tested_by plain engine seen call.name.now v call.arguments

  abbrev pub called : Result Val Fault
  called = called_by plain engine seen call.name.now call.arguments
