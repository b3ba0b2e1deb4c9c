-- What an instruction tells where it is asked for its parts; none where it is another one.
use Rattle.std.specs.Prelude.{◌≡◌, ℕ, ℤ, ◌+◌, Bool, true, false, ◌&&◌, ◌||◌, cond, IsTrue, List, Option, Some, None, is_some, option_map, option_and_then, slice_get, unwrap_or}
use Rattle.tera_errors.specs.Site as site
use Rattle.tera_errors.specs.declared.span.Span.{Span}
use Rattle.tera_syntax_tree.specs.declared.expression.BinaryOperator.{BinaryOperator}
use Rattle.tera_syntax_tree.specs.Tree.{Key}
use Rattle.tera_values.specs.Val.{Val}
use Rattle.tera_operators.specs.Operators.{is_comparison}
use Rattle.tera_code.specs.Constant.{small_integer}
use Rattle.tera_code.specs.declared.comparison.Comparison.{Comparison}
use Rattle.tera_code.specs.declared.instruction.Instruction.{Instruction}
use Rattle.tera_code.specs.declared.instruction.Instruction.TheVariants as instruction

-- the text that it puts out
abbrev pub written_text : Instruction → Option site.Text
written_text (instruction.WriteText text) = Some text
written_text other = None

-- the name whose value it puts out
abbrev pub written_name : Instruction → Option (site.Name × Span)
written_name (instruction.WriteName name span) = Some (name, span)
written_name other = None

-- the name whose value it puts on top of the operands
abbrev pub loaded_name : Instruction → Option (site.Name × Span)
loaded_name (instruction.LoadName name span) = Some (name, span)
loaded_name other = None

-- the integer that it puts on top of the operands, if it has at most 64 bits with its sign
abbrev pub loaded_integer : Instruction → Option (ℤ × Span)
loaded_integer (instruction.LoadConst value span) =
    option_map (λ z. (z, span)) (small_integer value)
loaded_integer other = None

-- the constant that it puts on top of the operands
abbrev pub loaded_constant : Instruction → Option (Val × Span)
loaded_constant (instruction.LoadConst value span) = Some (value, span)
loaded_constant other = None

-- the attribute that it takes, and whether it may be missing
abbrev pub loaded_attribute : Instruction → Option (site.Name × Bool × Span)
loaded_attribute (instruction.LoadAttribute name optional span) = Some (name, optional, span)
loaded_attribute other = None

-- the operator that it applies to two operands
abbrev pub applied_operator : Instruction → Option (BinaryOperator × Span)
applied_operator (instruction.Binary operator span) = Some (operator, span)
applied_operator other = None

-- the name that it binds, and whether that is outside of all turns
abbrev pub bound_name : Instruction → Option (site.Name × Bool)
bound_name (instruction.Store name is_global) = Some (name, is_global)
bound_name other = None

-- the loop that it opens: the names of keys and values, whether turns are counted, and the size of
-- the body
abbrev pub started_loop : Instruction → Option (Option site.Name × site.Name × Bool × ℕ)
started_loop (instruction.StartLoop key name counts size) = Some (key, name, counts, size)
started_loop other = None

-- the template that it includes
abbrev pub included_template : Instruction → Option (site.Name × Span)
included_template (instruction.TakeInclude name span) = Some (name, span)
included_template other = None

-- the block that it takes
abbrev pub taken_block : Instruction → Option (site.Name × Span)
taken_block (instruction.TakeBlock name span) = Some (name, span)
taken_block other = None

-- how many arguments the call has that takes what the next template above makes of a block
abbrev pub taken_super : Instruction → Option (ℕ × Span)
taken_super (instruction.TakeSuper arguments span) = Some (arguments, span)
taken_super other = None

-- the component that it calls, the keys of what it is given, and whether it has a body
abbrev pub taken_component : Instruction → Option (site.Name × List (Option Key) × Bool × Span)
taken_component (instruction.TakeComponent name keys has_body span) =
    Some (name, keys, has_body, span)
taken_component other = None

-- how many instructions it passes where a loop ends
abbrev pub ended_loop : Instruction → Option ℕ
ended_loop (instruction.EndLoop skip) = Some skip
ended_loop other = None

-- how many instructions it passes, in any case
abbrev pub jump_length : Instruction → Option ℕ
jump_length (instruction.Jump skip) = Some skip
jump_length other = None

-- how many instructions it passes where the operand that it takes is falsy
abbrev pub jump_length_if_false : Instruction → Option ℕ
jump_length_if_false (instruction.PopJumpIfFalse skip) = Some skip
jump_length_if_false other = None

abbrev pub is_write_top : Instruction → Bool
is_write_top instruction.WriteTop = true
is_write_top other = false

-- whether it takes an attribute of the topmost operand, puts that out or tests it
abbrev pub uses_top : Instruction → Bool
uses_top (instruction.LoadAttribute name optional span) = true
uses_top instruction.WriteTop = true
uses_top (instruction.PopJumpIfFalse skip) = true
uses_top other = false

-- the two instructions at a position compare the topmost operand with a constant
pub record Compares (code : List Instruction) (at : ℕ) (c : Comparison) : Type 0 where
  pub loads : slice_get code at ≡ Some (instruction.LoadConst c.constant c.constant_span)
  pub applies : slice_get code (at + 1) ≡ Some (instruction.Binary c.operator c.span)
  pub compares : IsTrue (is_comparison c.operator)

-- a constant, and an operator behind it that compares
abbrev pub comparison_of : Val × Span → BinaryOperator × Span → Option Comparison
comparison_of c o =
    cond (is_comparison o.0)
    (Some (record { constant = c.0; constant_span = c.1; operator = o.0; span = o.1 })) None

-- the comparison that the two instructions at a position make, if they do
abbrev pub comparison_at : List Instruction → ℕ → Option Comparison
comparison_at code at =
    option_and_then
    (λ c. option_and_then (comparison_of c)
    (option_and_then applied_operator (slice_get code (at + 1))))
    (option_and_then loaded_constant (slice_get code at))

-- whether the topmost operand is used up at a position, by the instruction there or by such a
-- comparison
abbrev pub uses_top_at : List Instruction → ℕ → Bool
uses_top_at code at =
    unwrap_or (option_map uses_top (slice_get code at)) false || is_some (comparison_at code at)

-- whether a name is loaded at a position and used up behind it
abbrev pub reads_on_at : List Instruction → ℕ → Bool
reads_on_at code at =
    is_some (option_and_then loaded_name (slice_get code at)) && uses_top_at code (at + 1)

abbrev pub is_next_turn : Instruction → Bool
is_next_turn instruction.NextTurn = true
is_next_turn other = false
