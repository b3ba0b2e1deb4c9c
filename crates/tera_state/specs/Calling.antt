-- What calls of filters, tests and functions make of values of any characters.
use Rattle.std.specs.Prelude.{Bool, true, false, map, Option, Some, None, Result, Ok, Err}
use Rattle.tera_errors.specs.Site.{Name}
use Rattle.tera_errors.specs.Fault.{Fault, message}
use Rattle.tera_values.specs.Alphabet.{Alphabet, plain}
use Rattle.tera_values.specs.Named.{Named}
use Rattle.tera_values.specs.Val.{Val, ValOf}
use Rattle.tera_values.specs.Access.{marked}
use Rattle.tera_built_ins.specs.declared.built_in_filter.BuiltInFilter.{BuiltInFilter}
use Rattle.tera_built_ins.specs.declared.built_in_test.BuiltInTest.{BuiltInTest}
use Rattle.tera_built_ins.specs.declared.built_in_function.BuiltInFunction.{BuiltInFunction}
use Rattle.tera_built_ins.specs.Filters.{filter_of}
use Rattle.tera_built_ins.specs.TestTable.{test_of}
use Rattle.tera_built_ins.specs.FunctionTable.{function_of}
use Rattle.tera_state.specs.Scope.{AroundOf, VariablesOf, look}
use Rattle.tera_state.specs.View.{View, escaping_in}
use Rattle.tera_state.specs.Engine.{Engine, OwnFilter, OwnTest, OwnFunction, Callee, own, built_in, filter_at, test_at, function_at, built_in_filters}

-- what an object answers, whose text is marked safe or left as it is
abbrev pub answer_in : {C : Type 0} → Alphabet C → Bool → Result (ValOf C) Fault
    → Result (ValOf C) Fault
answer_in alphabet true (Ok v) = Ok (marked (alphabet.vouched v))
answer_in alphabet true (Err fault) = Err fault
answer_in alphabet false answer = answer

-- of bytes: this is what runs
abbrev pub answer_of : Bool → Result Val Fault → Result Val Fault
answer_of = answer_in plain

module _ {C : Type 0} (alphabet : Alphabet C) where
  -- what an object sees where these are the variables, with this around them: values without marks
  abbrev pub seen_in : Engine → AroundOf C → VariablesOf C → Bool → View
  seen_in engine around variables autoescape =
      record {
        look = λ name. alphabet.bare (look name around variables);
        autoescape = autoescape;
        escape = engine.escape;
        filters = built_in_filters engine;
      }

  -- arguments without marks
  abbrev pub all_bare : Named (ValOf C) → Named Val
  all_bare given = map (λ g. (g.0, alphabet.bare g.1)) given

  module _ (view : View) where
    -- A built-in works on characters. An object is handed values without marks. What it answers comes
    -- from outside, where its safe texts are marked safe; then its own word counts that all are.
    abbrev pub filter_called : Option (Callee OwnFilter BuiltInFilter) → ValOf C → Named (ValOf C)
        → Result (ValOf C) Fault
    filter_called None v given = Err message
    filter_called (Some (own o)) v given =
        answer_in alphabet o.safe
        (alphabet.answers (o.meaning (alphabet.bare v) (all_bare given) view))
    filter_called (Some (built_in b)) v given = filter_of alphabet (escaping_in view) b v given

    abbrev pub test_called : Option (Callee OwnTest BuiltInTest) → ValOf C → Named (ValOf C)
        → Result Bool Fault
    test_called None v given = Err message
    test_called (Some (own o)) v given = o.meaning (alphabet.bare v) (all_bare given) view
    test_called (Some (built_in b)) v given = test_of alphabet b v given

    abbrev pub function_called : Option (Callee OwnFunction BuiltInFunction) → Named (ValOf C)
        → Result (ValOf C) Fault
    function_called None given = Err message
    function_called (Some (own o)) given =
        answer_in alphabet o.safe (alphabet.answers (o.meaning (all_bare given) view))
    function_called (Some (built_in b)) given = function_of alphabet b given

  -- by names, and a fault where the name stands for nothing
  abbrev pub filtered_by : Engine → View → Name → ValOf C → Named (ValOf C) → Result (ValOf C) Fault
  filtered_by engine view name v given = filter_called view (filter_at engine name) v given

  abbrev pub tested_by : Engine → View → Name → ValOf C → Named (ValOf C) → Result Bool Fault
  tested_by engine view name v given = test_called view (test_at engine name) v given

  abbrev pub called_by : Engine → View → Name → Named (ValOf C) → Result (ValOf C) Fault
  called_by engine view name given = function_called view (function_at engine name) given
