-- What an instruction comes to.
use Rattle.std.specs.Prelude.{List, ◌∷◌, ◌++◌, Ok, Err}
use Rattle.tera_errors.specs.declared.span.Span.{Span}
use Rattle.tera_errors.specs.Site.{Text}
use Rattle.tera_errors.specs.Fault.{Fault}
use Rattle.tera_values.specs.Val.{Val}
use Rattle.tera_operators.specs.Operand.{Evaluated, Outcome}
use Rattle.tera_state.specs.Scope.{Variables}
use Rattle.tera_machine.specs.Config.{Config}
use Rattle.tera_machine.specs.Flow.{Flow, On}

-- where it goes on, a fault, or nothing, where what it needs is missing
pub data Did : Type 0 where
  Goes : (config : Config) (flow : Flow) → Did
  Faults : (fault : Fault) → Did
  Sticks : Did

abbrev pub holding : List Evaluated → Config → Config
holding operands c = record c { operands = operands }

abbrev pub pushed : Val → Span → Config → Did
pushed v span c = Goes (holding (record { value = v; span = span } ∷ c.operands) c) On

abbrev pub with_text : Text → Config → Config
with_text text c = record c { run = record c.run { text = c.run.text ++ text } }

abbrev pub with_vars : (Variables → Variables) → Config → Config
with_vars f c = record c { run = record c.run { vars = f c.run.vars } }

-- the outcome on top of the operands that are left, or its fault
abbrev pub outcome : Outcome → List Evaluated → Config → Did
outcome (Ok a) rest c = Goes (holding (a ∷ rest) c) On
outcome (Err fault) rest c = Faults fault
