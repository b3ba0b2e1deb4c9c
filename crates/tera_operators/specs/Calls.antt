-- Filters, tests and functions, called with operands.
use Rattle.std.specs.Prelude.{Bool, true, false, cond, List, [], map, Result, Ok, Err}
use Rattle.tera_errors.specs.declared.span.Span.{Span}
use Rattle.tera_errors.specs.Site.{Name}
use Rattle.tera_errors.specs.Fault.{Fault, invalid_argument}
use Rattle.tera_values.specs.Val.{ValOf, bool}
use Rattle.tera_values.specs.Named.{Named, put_all}
use Rattle.tera_operators.specs.Operand.{EvaluatedOf, OutcomeOf, at_span, fault_at, placed, then}

-- the values of arguments, by name
abbrev pub by_name : {C : Type 0} → List (Name × EvaluatedOf C) → Named (ValOf C)
by_name given = put_all (map (λ g. (g.0, g.1.value)) given) []

abbrev pub is_wrong_type : Fault → Bool
is_wrong_type invalid_argument = true
is_wrong_type other = false

-- what a filter or a test answers: that something is of a wrong type is reported at the value, and
-- else what is refused at the call
abbrev pub placed_call : {A : Type 0} → Name → Result A Fault → Span → Span → Result A Fault
placed_call file (Ok a) value call = Ok a
placed_call file (Err fault) value call = fault_at file (cond (is_wrong_type fault) value call)

-- a filter, a test and a function that answer this of values and arguments
module _ {C : Type 0} (file : Name) where
  abbrev pub filter_applied_by : (ValOf C → Named (ValOf C) → Result (ValOf C) Fault)
      → EvaluatedOf C → List (Name × EvaluatedOf C) → Span → OutcomeOf C
  filter_applied_by answer a given span =
      then (placed_call file (answer a.value (by_name given)) a.span span) (λ v. at_span v span)

  abbrev pub test_applied_by : (ValOf C → Named (ValOf C) → Result Bool Fault) → EvaluatedOf C
      → List (Name × EvaluatedOf C) → Span → OutcomeOf C
  test_applied_by answer a given span =
      then (placed_call file (answer a.value (by_name given)) a.span span)
      (λ b. at_span (bool b) span)

  abbrev pub function_called_by : (Named (ValOf C) → Result (ValOf C) Fault)
      → List (Name × EvaluatedOf C) → Span → OutcomeOf C
  function_called_by answer given span =
      then (placed file (answer (by_name given)) span) (λ v. at_span v span)
