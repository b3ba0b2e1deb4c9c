-- What a dispatch of the machine needs, and what it did.
use Rattle.std.specs.Prelude.{◌≡◌, ℕ, ◌+◌, ◌<◌, ◌≤◌, ◌^◌, length, Some, Result, slice_get}
use Rattle.tera_errors.specs.Answer.{SeenError}
use Rattle.tera_code.specs.declared.instruction.Instruction.{Instruction}
use Rattle.tera_code.specs.declared.instruction.Instruction.TheVariants.{WriteText, WriteName, NextTurn, PopJumpIfFalse, Jump, LoadName, Binary, WriteTop, LoadAttribute, Store, LoadConst, JumpIfFalseOrPop, JumpIfTrueOrPop, Not, TakeBlock, TakeInclude, TakeSuper, TakeComponent, StartLoop, EndLoop}
use Rattle.tera_state.specs.Engine.{Engine}
use Rattle.tera_machine.specs.declared.configuration.Configuration.{Configuration}
use Rattle.tera_machine.specs.declared.cursor.Cursor.{Cursor}
use Rattle.tera_machine.specs.declared.machine.Flow as declared
use Rattle.tera_machine.specs.declared.machine.VirtualMachine.{VirtualMachine}
use Rattle.tera_machine.specs.Config.{config_of}
use Rattle.tera_machine.specs.Effect.{effect, Does, IsReady, IsSmall}
use Rattle.tera_machine.specs.Paths.{Start, Stands, start_at, done_since}
use Rattle.tera_machine.specs.Subject.{here_of}

-- a position in code that a `usize` can count
pub record IsPosition {T : Type 0} (cursor : Cursor T) : Type 0 where
  pub few : length cursor.chunk.now.code < 2 ^ 64
  pub there : cursor.at < length cursor.chunk.now.code

-- this instruction stands there
pub record HasInstruction {T : Type 0} (cursor : Cursor T) (i : Instruction) : Type 0 where
  pub there : slice_get cursor.chunk.now.code cursor.at ≡ Some i
  pub few : length cursor.chunk.now.code < 2 ^ 64

-- this instruction stands there, the operands that it needs are there, and it jumps no farther than
-- a `usize` can count
pub record CanRun {O T : Type 0} (engine : O → Engine) (m : VirtualMachine O) (cursor : Cursor T)
    (i : Instruction) (c : Configuration) : Type 0 where
  pub there : slice_get cursor.chunk.now.code cursor.at ≡ Some i
  pub few : length cursor.chunk.now.code < 2 ^ 64
  pub ready : IsReady (effect (here_of engine m cursor.chunk.now.file c) (cursor.at + 1) i) c
  pub small : IsSmall
      (effect (here_of engine m cursor.chunk.now.file c) (cursor.at + 1) i (config_of c))

-- the stage at which the dispatch asks for an instruction: `run_instruction` is the first one, 0,
-- and what it leaves comes to the next one
abbrev pub stage_of : Instruction → ℕ
stage_of (WriteText text) = 0
stage_of (WriteName name span) = 0
stage_of NextTurn = 0
stage_of (PopJumpIfFalse skip) = 0
stage_of (Jump skip) = 0
-- `run_name_or_other`
stage_of (LoadName name span) = 1
-- `run_operation`
stage_of (Binary operator span) = 2
stage_of WriteTop = 2
stage_of (LoadAttribute name optional span) = 2
stage_of (Store name is_global) = 2
-- `run_constant_or_built_in`, which takes no filter or test of the caller's
stage_of (LoadConst value span) = 3
stage_of (JumpIfFalseOrPop skip) = 3
stage_of (JumpIfTrueOrPop skip) = 3
stage_of Not = 3
-- `run_request`
stage_of (TakeBlock name span) = 4
stage_of (TakeInclude name span) = 4
stage_of (TakeSuper arguments span) = 4
stage_of (TakeComponent name keys has_body span) = 4
-- `run_loop_or_rare` and `run_rare`
stage_of (StartLoop key name counts size) = 5
stage_of (EndLoop skip) = 5
-- `run_unpacked`
stage_of other = 6

-- no stage before this one asks for the instruction
abbrev pub IsLeft : ℕ → Instruction → Type 0
IsLeft stage i = stage ≤ stage_of i

-- what began so has come to the instruction at this cursor, and that did this
pub record HasRunFrom {T : Type 0} (s : Start T) (before : Configuration)
    (result : Result declared.Flow SeenError) (cursor : Cursor T) (after : Configuration)
    : Type 0 where
  pub stands : Stands s cursor
  pub does : Does (λ c. done_since s cursor) before result after

-- the machine ran the instruction at the first cursor, and maybe some after it, up to the one at the
-- second cursor; the two configurations are those before and after
abbrev pub HasRun : {O T : Type 0} → (O → Engine) → VirtualMachine O → Cursor T → Configuration
    → Result declared.Flow SeenError → Cursor T → Configuration → Type 0
HasRun engine m cursor before result cursor2 after =
    HasRunFrom (start_at (here_of engine m cursor.chunk.now.file before) cursor (config_of before))
    before result cursor2 after
