-- What a configuration of the machine stands for.
use Rattle.std.specs.Prelude.{ℕ, List, [], map}
use Rattle.std.specs.List.{zip}
use Rattle.tera_errors.specs.Site.{Text}
use Rattle.tera_values.specs.Val.{Val}
use Rattle.tera_state.specs.Scope.{Turn}
use Rattle.tera_state.specs.Scopes.{variables_of, coming_of}
use Rattle.tera_operators.specs.Operand.{Evaluated}
use Rattle.tera_meaning.specs.Run.{Run}
use Rattle.tera_machine.specs.declared.configuration.Configuration.{Configuration}
use Rattle.tera_machine.specs.declared.loop_place.LoopPlace.{LoopPlace}

-- an open loop of the body that runs: where the loop's own body starts, how long that is, the turns
-- to come, and what a comprehension kept so far
pub record Loop : Type 0 where
  pub start : ℕ
  pub size : ℕ
  pub rest : List Turn
  pub kept : List Val

-- operands that wait, the topmost first; the texts around those that are captured, and the open
-- loops, the innermost first; and what was done so far
pub record Config : Type 0 where
  pub operands : List Evaluated
  pub captures : List Text
  pub loops : List Loop
  pub run : Run

-- a loop of the body, and the turns that the scopes have for it
abbrev pub loop_of : LoopPlace × List Turn → Loop
loop_of (place, rest) =
    record { start = place.start; size = place.size; rest = rest; kept = place.kept.items }

abbrev pub loops_at : List LoopPlace → List (List Turn) → List Loop
loops_at places coming = map loop_of (zip places coming)

abbrev pub config_of : Configuration → Config
config_of c = record {
  operands = c.operands;
  captures = c.texts.below;
  loops = loops_at c.places (coming_of c.scopes);
  run = record { vars = variables_of c.scopes; text = c.texts.now; blocks = c.ended.all };
}

-- nothing waits where a rendering begins
abbrev pub starting : Run → Config
starting r = record { operands = []; captures = []; loops = []; run = r }
