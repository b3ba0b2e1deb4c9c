-- What a name stands for, as it is found.
use Rattle.std.specs.Prelude.{Bool, false, Result}
use Rattle.tera_errors.specs.Fault.{Fault}
use Rattle.tera_values.specs.Alphabet.{plain}
use Rattle.tera_values.specs.Named.{Named}
use Rattle.tera_values.specs.Val.{Val}
use Rattle.tera_built_ins.specs.declared.built_in_filter.BuiltInFilter.{BuiltInFilter}
use Rattle.tera_built_ins.specs.declared.built_in_test.BuiltInTest.{BuiltInTest}
use Rattle.tera_built_ins.specs.declared.built_in_function.BuiltInFunction.{BuiltInFunction}
use Rattle.tera_built_ins.specs.Filters.{filter_of}
use Rattle.tera_built_ins.specs.TestTable.{test_of}
use Rattle.tera_built_ins.specs.FunctionTable.{function_of}
use Rattle.tera_state.specs.View.{View, escaping_in}
use Rattle.tera_state.specs.Engine.{Callee, own, built_in}
use Rattle.tera_state.specs.declared.objects.stored.Stored.{Stored}
use Rattle.tera_state.specs.declared.objects.stored.Stored.TheVariants.{BuiltIn, Own}

-- where what the caller registered means this
abbrev pub callee_of : {B X O : Type 0} → (X → O) → Stored B X → Callee O B
callee_of meaning (BuiltIn b) = built_in b
callee_of meaning (Own x) = own (meaning x.now)

-- What a filter, a test and a function make of a value and arguments, where it sees this of the
-- rendering.
module _ {X : Type 0} where
  abbrev pub filter_answer : (X → Val → Named Val → View → Result Val Fault)
      → View → Stored BuiltInFilter X → Val → Named Val → Result Val Fault
  filter_answer meaning view (BuiltIn b) v given = filter_of plain (escaping_in view) b v given
  filter_answer meaning view (Own x) v given = meaning x.now v given view

  abbrev pub test_answer : (X → Val → Named Val → View → Result Bool Fault)
      → View → Stored BuiltInTest X → Val → Named Val → Result Bool Fault
  test_answer meaning view (BuiltIn b) v given = test_of plain b v given
  test_answer meaning view (Own x) v given = meaning x.now v given view

  abbrev pub function_answer : (X → Named Val → View → Result Val Fault)
      → View → Stored BuiltInFunction X → Named Val → Result Val Fault
  function_answer meaning view (BuiltIn b) given = function_of plain b given
  function_answer meaning view (Own x) given = meaning x.now given view

  -- Whether its texts are to be marked safe. What is built in marks its texts itself.
  abbrev pub is_marked : {B : Type 0} → (X → Bool) → Stored B X → Bool
  is_marked safe (BuiltIn b) = false
  is_marked safe (Own x) = safe x.now
