-- Loops that put out texts and items alone, which are done at once.
use Rattle.std.specs.Prelude.{◌≡◌, ℕ, suc, ◌+◌, ◌-◌, ◌≤◌, Bool, true, List, [], ◌∷◌, Some, None, is_some, option_and_then, slice_get}
use Rattle.tera_errors.specs.Site.{Name, Text}
use Rattle.tera_values.specs.Naming.{counter_of}
use Rattle.tera_values.specs.Val.{Val}
use Rattle.tera_state.specs.Items.{unkeyed}
use Rattle.tera_state.specs.Scope.{Turn, Heading, open_turn, turn, turns_from}
use Rattle.tera_code.specs.declared.instruction.Instruction.TheVariants as instruction
use Rattle.tera_code.specs.InstructionParts.{ended_loop}
use Rattle.tera_code.specs.Code.{Code}
use Rattle.tera_code.specs.Printing.{puts_up_to}
use Rattle.tera_state.specs.Engine.{Engine}
use Rattle.tera_meaning.specs.Here.{Here}
use Rattle.tera_machine.specs.declared.cursor.Cursor.{Cursor}
use Rattle.tera_machine.specs.declared.machine.VirtualMachine.{VirtualMachine}
use Rattle.tera_machine.specs.Config.{Config}
use Rattle.tera_machine.specs.Did.{with_vars}
use Rattle.tera_machine.specs.Subject.{engine_of}
use Rattle.tera_machine.specs.Together.{after_steps}
use Rattle.tera_machine.specs.Paths.{Start, Continues}

-- what is fixed where the machine runs a body of this file
abbrev pub IsAt : {O : Type 0} → (O → Engine) → VirtualMachine O → Name → Here → Type 0
IsAt engine m file here =
    (here.file ≡ file) × (here.autoescape ≡ m.autoescape) × (here.engine ≡ engine_of engine m)

-- with this as the innermost text
abbrev pub saying : Text → Config → Config
saying text c = record c { run = record c.run { text = text } }

-- in front of the instruction at a position, to which all led that were handed out
pub record Before {T : Type 0} (s : Start T) (cursor : Cursor T) (at : ℕ) (c : Config) : Type 0 where
  pub continues : Continues s cursor
  pub counted : s.cursor.steps.now ≤ cursor.steps.now
  pub led : after_steps s.here s.cursor.chunk.now.code
      (suc (cursor.steps.now - s.cursor.steps.now)) s.cursor.at s.config ≡ Some (at, c)

-- the body of such a loop, which starts at this position
pub record PrintsItems (code : Code) (start size : ℕ) (name : Name) : Type 0 where
  pub uncounted : counter_of name ≡ None
  pub parts : puts_up_to name code size start ≡ Some (start + size)
  pub ends : slice_get code (start + size) ≡ Some instruction.NextTurn
  pub closes : is_some (option_and_then ended_loop (slice_get code (start + size + 1))) ≡ true

-- what such a loop calls its items
abbrev pub items_called : Name → Bool → Heading
items_called name counts = record { name = name; key = None; counts = counts }

-- in a turn of the loop, before these
abbrev pub in_loop : Turn → List Turn → ℕ → ℕ → Config → Config
in_loop t rest start size c =
    with_vars (open_turn t)
    (record c
    { loops = record { start = start; size = size; rest = rest; kept = [] } ∷ c.loops })

-- in the turn of the first of these items, which is the turn of this number among so many
abbrev pub at_items : Heading → ℕ → ℕ → ℕ → ℕ → List Val → Config → Config
at_items h turns index start size [] c = c
at_items h turns index start size (v ∷ vs) c =
    in_loop (turn h turns index (None, v)) (turns_from h turns (suc index) (unkeyed vs)) start size c

-- behind the end of the last turn
pub record Behind {T : Type 0} (s : Start T) (cursor : Cursor T) (start size : ℕ) (c : Config)
    : Type 0 where
  pub last : Turn
  pub before : Before s cursor (start + size + 1) (in_loop last [] start size c)

-- in front of the turns of these items, or behind the loop, where none is left
abbrev pub Turning : {T : Type 0} → Start T → Cursor T → ℕ → ℕ → Heading → ℕ → ℕ → List Val
    → Config → Type 0
Turning s cursor start size h turns index [] c = Behind s cursor start size c
Turning s cursor start size h turns index (v ∷ vs) c =
    Before s cursor start (at_items h turns index start size (v ∷ vs) c)
