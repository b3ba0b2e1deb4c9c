-- What code takes that stands elsewhere.
use Rattle.std.specs.Prelude.{Option, Some, None, option_and_then}
use Rattle.tera_errors.specs.Site.{Name}
use Rattle.tera_syntax_tree.specs.Calls.{Callee, AComponent, ATemplate}
use Rattle.tera_code.specs.declared.instruction.Instruction.{Instruction}
use Rattle.tera_code.specs.Called.{called_by}

-- a template that is included, or a component that is called
pub data Target : Type 0 where
  TemplateNamed : (name : Name) → Target
  ComponentNamed : (name : Name) → Target

abbrev pub target_called : Callee → Option Target
target_called (ATemplate name) = Some (TemplateNamed name)
target_called (AComponent name) = Some (ComponentNamed name)
target_called _ = None

abbrev pub target_in : Instruction → Option Target
target_in i = option_and_then target_called (called_by i)
