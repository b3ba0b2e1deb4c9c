-- What instructions tell that load an integer of at most 64 bits with its sign.
use Rattle.std.specs.Prelude.{ℕ, ℤ, ◌+◌, Bool, cond, List, Option, Some, None, is_some, option_and_then, slice_get}
use Rattle.tera_errors.specs.declared.span.Span.{Span}
use Rattle.tera_syntax_tree.specs.declared.expression.BinaryOperator.{BinaryOperator}
use Rattle.tera_values.specs.Val.{int}
use Rattle.tera_operators.specs.Operators.{is_comparison}
use Rattle.tera_code.specs.InstructionParts.{applied_operator, loaded_integer}
use Rattle.tera_code.specs.declared.comparison.Comparison.{Comparison}
use Rattle.tera_code.specs.declared.comparison.IntegerComparison.{IntegerComparison}
use Rattle.tera_code.specs.declared.instruction.Instruction.{Instruction}

-- the comparison with that constant
abbrev pub with_integer : IntegerComparison → Comparison
with_integer c =
    record {
      constant = int c.integer;
      constant_span = c.integer_span;
      operator = c.operator;
      span = c.span;
    }

-- whether such an integer is loaded at a position
abbrev pub loads_integer_at : List Instruction → ℕ → Bool
loads_integer_at code at = is_some (option_and_then loaded_integer (slice_get code at))

-- such an integer, and an operator behind it that compares
abbrev pub integer_comparison_of : ℤ × Span → BinaryOperator × Span → Option IntegerComparison
integer_comparison_of c o =
    cond (is_comparison o.0)
    (Some (record { integer = c.0; integer_span = c.1; operator = o.0; span = o.1 })) None

-- the comparison with such an integer that the two instructions at a position make, if they do
abbrev pub integer_comparison_at : List Instruction → ℕ → Option IntegerComparison
integer_comparison_at code at =
    option_and_then
    (λ c. option_and_then (integer_comparison_of c)
    (option_and_then applied_operator (slice_get code (at + 1))))
    (option_and_then loaded_integer (slice_get code at))
