-- Where nodes stand.
use Rattle.std.specs.Prelude.{ℕ, Bool, Result}
use Rattle.tera_errors.specs.Site.{Name}
use Rattle.tera_errors.specs.Fault.{Fault}
use Rattle.tera_values.specs.Alphabet.{Alphabet}
use Rattle.tera_values.specs.Named.{Named}
use Rattle.tera_values.specs.Val.{ValOf}
use Rattle.tera_state.specs.Scope.{AroundOf, VariablesOf}
use Rattle.tera_state.specs.View.{View}
use Rattle.tera_state.specs.Engine.{Engine}
use Rattle.tera_state.specs.Calling.{seen_in, filtered_by, tested_by, called_by}

-- what is fixed while nodes are rendered: the template in whose text they stand,
-- what is around their variables, the autoescape flag and the engine
pub record HereOf (C : Type 0) : Type 0 where
  pub file : Name
  pub around : AroundOf C
  pub autoescape : Bool
  pub engine : Engine

-- what an object of the caller sees there, where these are the variables
abbrev pub seen_at : {C : Type 0} → Alphabet C → HereOf C → VariablesOf C → View
seen_at alphabet here v = seen_in alphabet here.engine here.around v here.autoescape

-- and what names make there of values and arguments
module _ {C : Type 0} (alphabet : Alphabet C) (here : HereOf C) (v : VariablesOf C) where
  abbrev pub filtered_at : Name → ValOf C → Named (ValOf C) → Result (ValOf C) Fault
  filtered_at = filtered_by alphabet here.engine (seen_at alphabet here v)

  abbrev pub tested_at : Name → ValOf C → Named (ValOf C) → Result Bool Fault
  tested_at = tested_by alphabet here.engine (seen_at alphabet here v)

  abbrev pub called_at : Name → Named (ValOf C) → Result (ValOf C) Fault
  called_at = called_by alphabet here.engine (seen_at alphabet here v)

abbrev pub Here : Type 0
Here = HereOf ℕ
