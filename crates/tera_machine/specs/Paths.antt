-- How far the reading of a path has come.
use Rattle.std.specs.Prelude.{◌≡◌, suc, ◌-◌, ◌<◌, ◌≤◌, ◌∷◌, length, Some, Err}
use Rattle.tera_errors.specs.Site.{Name}
use Rattle.tera_errors.specs.Answer.{SeenError}
use Rattle.tera_operators.specs.Operand.{Evaluated, Outcome}
use Rattle.tera_operators.specs.Operators.{binary_of}
use Rattle.tera_code.specs.declared.comparison.Comparison.{Comparison}
use Rattle.tera_meaning.specs.Here.{Here}
use Rattle.tera_machine.specs.declared.cursor.Cursor.{Cursor}
use Rattle.tera_machine.specs.Config.{Config}
use Rattle.tera_machine.specs.Flow.{On}
use Rattle.tera_machine.specs.Did.{Did, Goes, holding}
use Rattle.tera_machine.specs.Effect.{Effected}
use Rattle.tera_machine.specs.Together.{done, after_steps}

-- where a reading begins: what is fixed there, the cursor, the configuration
pub record Start (T : Type 0) : Type 0 where
  pub here : Here
  pub cursor : Cursor T
  pub config : Config

abbrev pub start_at : {T : Type 0} → Here → Cursor T → Config → Start T
start_at here cursor c = record { here = here; cursor = cursor; config = c }

-- a cursor that moved on from there: the chunk stays, and so does what counts
pub record Continues {T : Type 0} (s : Start T) (cursor : Cursor T) : Type 0 where
  pub chunk : cursor.chunk.now ≡ s.cursor.chunk.now
  pub steps : cursor.steps.ghost_name ≡ s.cursor.steps.ghost_name
  pub file : s.here.file ≡ s.cursor.chunk.now.file

-- what the instructions did that were handed out since
abbrev pub done_since : {T : Type 0} → Start T → Cursor T → Did
done_since s cursor =
    done s.here s.cursor.chunk.now.code (suc (cursor.steps.now - s.cursor.steps.now)) s.cursor.at
    s.config

-- at the last instruction that was handed out, to which all before it led
pub record Stands {T : Type 0} (s : Start T) (cursor : Cursor T) : Type 0 where
  pub continues : Continues s cursor
  pub counted : s.cursor.steps.now ≤ cursor.steps.now
  pub there : cursor.at < length s.cursor.chunk.now.code
  pub config : Config
  pub led : after_steps s.here s.cursor.chunk.now.code (cursor.steps.now - s.cursor.steps.now)
      s.cursor.at s.config ≡ Some (cursor.at, config)

-- and that one went on too, with this configuration
pub record Comes {T : Type 0} (s : Start T) (cursor : Cursor T) (c : Config) : Type 0 where
  pub stands : Stands s cursor
  pub did : done_since s cursor ≡ Goes c On

-- with this operand on top
abbrev pub topped : Evaluated → Config → Config
topped a c = holding (a ∷ c.operands) c

-- and all that they did is that this operand lies on top
abbrev pub Reaches : {T : Type 0} → Start T → Cursor T → Evaluated → Type 0
Reaches s cursor a = Comes s cursor (topped a s.config)

-- and the last one did not go on, for this reason
abbrev pub Breaks : {T : Type 0} → Start T → Cursor T → SeenError → Type 0
Breaks s cursor e = (c : Config) → Effected (done_since s cursor) (Err e) c

-- the constant with which an operand is compared
abbrev pub constant_of : Comparison → Evaluated
constant_of c = record { value = c.constant; span = c.constant_span }

-- what the comparison makes of the operand on its left
abbrev pub truth_of : Name → Evaluated → Comparison → Outcome
truth_of file a c = binary_of file c.operator a (constant_of c) c.span
