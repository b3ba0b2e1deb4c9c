-- What instructions tell by which an expression goes on or jumps.
use Rattle.std.specs.Prelude.{ℕ, Bool, true, false, Option, Some, None}
use Rattle.tera_code.specs.declared.instruction.Instruction.{Instruction}
use Rattle.tera_code.specs.declared.instruction.Instruction.TheVariants as instruction

-- how many instructions it passes where the operand that it keeps there is falsy
abbrev pub falsy_jump_length : Instruction → Option ℕ
falsy_jump_length (instruction.JumpIfFalseOrPop skip) = Some skip
falsy_jump_length other = None

-- how many instructions it passes where the operand that it keeps there is truthy
abbrev pub truthy_jump_length : Instruction → Option ℕ
truthy_jump_length (instruction.JumpIfTrueOrPop skip) = Some skip
truthy_jump_length other = None

abbrev pub is_not : Instruction → Bool
is_not instruction.Not = true
is_not other = false
