-- What operators give.
use Rattle.std.specs.Prelude.{◌≡◌, ℤ, pos, Bool, true, false, cond, not, ◌++◌, Result, Ok}
use Rattle.std.specs.declared.cmp.Ordering.{Ordering}
use Rattle.std.specs.Ordering.{int_eq, is_lt, is_gt, is_le, is_ge}
use Rattle.tera_errors.specs.declared.span.Span.{Span}
use Rattle.tera_errors.specs.Site.{Name}
use Rattle.tera_errors.specs.Fault.{Fault}
use Rattle.tera_syntax_tree.specs.declared.expression.BinaryOperator.{BinaryOperator}
use Rattle.tera_syntax_tree.specs.declared.expression.BinaryOperator.TheVariants as op
use Rattle.tera_values.specs.Alphabet.{Alphabet, plain}
use Rattle.tera_values.specs.Val.{Val, ValOf, bool, text}
use Rattle.tera_values.specs.Access.{int_of, truthy}
use Rattle.tera_values.specs.Order.{order, same, comparable}
use Rattle.tera_values.specs.Printed.{printed_of}
use Rattle.tera_values.specs.Slices.{contains}
use Rattle.tera_values.specs.Number.{add, sub, mul, div, floor_div, rem, pow, negate}
use Rattle.tera_operators.specs.Operand.{Evaluated, EvaluatedOf, Outcome, OutcomeOf, at_span, fault_at, known, placed, spanning, then}

abbrev pub not_of : {C : Type 0} → EvaluatedOf C → EvaluatedOf C
not_of a = record { value = bool (not (truthy a.value)); span = a.span }

-- a result or a fault at the combined span
abbrev pub combined : {C : Type 0} → Name → EvaluatedOf C → EvaluatedOf C → Result (ValOf C) Fault
    → OutcomeOf C
combined file a b result = then (placed file result (spanning a b)) (λ v. at_span v (spanning a b))

-- an operand that is no number is a fault at its position
abbrev pub number_at : {C : Type 0} → Name → EvaluatedOf C → Result ℤ Fault
number_at file a = known file (int_of a.value) a.span

-- two numbers: of two operands that are none the left one is the fault
abbrev pub numbers : {C : Type 0} → Name → EvaluatedOf C → EvaluatedOf C → Result (ℤ × ℤ) Fault
numbers file a b = then (number_at file a) (λ m. then (number_at file b) (λ n. Ok (m, n)))

-- a zero divisor is a fault at the right operand
abbrev pub divisor_of : {C : Type 0} → Name → EvaluatedOf C → EvaluatedOf C → Result ℤ Fault
divisor_of file a b =
    then (numbers file a b) (λ mn. cond (int_eq mn.1 (pos 0)) (fault_at file b.span) (Ok mn.1))

-- values are reckoned with and compared without their marks
module _ {C : Type 0} (alphabet : Alphabet C) where
  -- a value that is no number, and a result that is too large, are faults at the operand
  abbrev pub negative_in : Name → EvaluatedOf C → OutcomeOf C
  negative_in file a =
      then (placed file (alphabet.answers (negate (alphabet.bare a.value))) a.span)
      (λ v. at_span v a.span)

  -- what comes of the two values, as an operand
  abbrev pub answered_in : Name → (Val → Val → Result Val Fault) → EvaluatedOf C → EvaluatedOf C
      → OutcomeOf C
  answered_in file f a b =
      combined file a b (alphabet.answers (f (alphabet.bare a.value) (alphabet.bare b.value)))

  abbrev pub calculated_in : Name → (Val → Val → Result Val Fault) → EvaluatedOf C → EvaluatedOf C
      → OutcomeOf C
  calculated_in file f a b = then (numbers file a b) (λ mn. answered_in file f a b)

  abbrev pub divided_in : Name → (Val → Val → Result Val Fault) → EvaluatedOf C → EvaluatedOf C
      → OutcomeOf C
  divided_in file f a b = then (divisor_of file a b) (λ n. answered_in file f a b)

  -- how the left operand stands to the right one, where the two are comparable
  abbrev pub standing_in : Name → EvaluatedOf C → EvaluatedOf C → Result Ordering Fault
  standing_in file a b =
      cond (comparable (alphabet.bare a.value) (alphabet.bare b.value))
      (Ok (order (alphabet.bare a.value) (alphabet.bare b.value))) (fault_at file (spanning a b))

  abbrev pub compared_in : Name → (Ordering → Bool) → EvaluatedOf C → EvaluatedOf C → OutcomeOf C
  compared_in file test a b =
      then (standing_in file a b) (λ o. at_span (bool (test o)) (spanning a b))

  -- what has nothing in it is a fault at its position
  abbrev pub contained_in : Name → EvaluatedOf C → EvaluatedOf C → Span → OutcomeOf C
  contained_in file a b span =
      then (placed file (contains (alphabet.bare b.value) (alphabet.bare a.value)) b.span)
      (λ has. at_span (bool has) span)

  abbrev pub binary_in : Name → BinaryOperator → EvaluatedOf C → EvaluatedOf C → Span → OutcomeOf C
  binary_in file op.Add a b span = answered_in file add a b
  binary_in file op.Subtract a b span = calculated_in file sub a b
  binary_in file op.Multiply a b span = calculated_in file mul a b
  binary_in file op.Divide a b span = divided_in file div a b
  binary_in file op.FloorDivide a b span = divided_in file floor_div a b
  binary_in file op.Remainder a b span = divided_in file rem a b
  binary_in file op.Power a b span = calculated_in file pow a b
  binary_in file op.Concat a b span =
      at_span (text (printed_of alphabet a.value ++ printed_of alphabet b.value) false)
      (spanning a b)
  binary_in file op.Equal a b span =
      at_span (bool (same (alphabet.bare a.value) (alphabet.bare b.value))) (spanning a b)
  binary_in file op.NotEqual a b span =
      at_span (bool (not (same (alphabet.bare a.value) (alphabet.bare b.value)))) (spanning a b)
  binary_in file op.Less a b span = compared_in file is_lt a b
  binary_in file op.Greater a b span = compared_in file is_gt a b
  binary_in file op.LessOrEqual a b span = compared_in file is_le a b
  binary_in file op.GreaterOrEqual a b span = compared_in file is_ge a b
  binary_in file op.In a b span = contained_in file a b span

-- whether an operator tells how its operands stand in order
abbrev pub is_order : BinaryOperator → Bool
is_order op.Less = true
is_order op.Greater = true
is_order op.LessOrEqual = true
is_order op.GreaterOrEqual = true
is_order other = false

-- whether it tells that, or if they are the same
abbrev pub is_comparison : BinaryOperator → Bool
is_comparison op.Equal = true
is_comparison op.NotEqual = true
is_comparison other = is_order other

-- of texts of bytes
abbrev pub negative_of : Name → Evaluated → Outcome
negative_of = negative_in plain

abbrev pub calculated : Name → (Val → Val → Result Val Fault) → Evaluated → Evaluated → Outcome
calculated = calculated_in plain

abbrev pub divided : Name → (Val → Val → Result Val Fault) → Evaluated → Evaluated → Outcome
divided = divided_in plain

abbrev pub standing_of : Name → Evaluated → Evaluated → Result Ordering Fault
standing_of = standing_in plain

abbrev pub compared : Name → (Ordering → Bool) → Evaluated → Evaluated → Outcome
compared = compared_in plain

abbrev pub contained : Name → Evaluated → Evaluated → Span → Outcome
contained = contained_in plain

abbrev pub binary_of : Name → BinaryOperator → Evaluated → Evaluated → Span → Outcome
binary_of = binary_in plain

-- the operator makes the value of the two values, at the combined span: in every file and wherever
-- they stand
abbrev pub Makes : BinaryOperator → Val → Val → Val → Type 0
Makes operator v w made = (file : Name) (left right span : Span) →
    binary_of file operator (record { value = v; span = left })
    (record { value = w; span = right }) span
    ≡ at_span made (record { start = left.start; end = right.end })
