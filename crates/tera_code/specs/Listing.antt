-- What a contract sees of a chunk.
use Rattle.std.specs.Prelude.{List}
use Rattle.tera_errors.specs.Site.{Name}
use Rattle.tera_code.specs.declared.instruction.Instruction.{Instruction}

-- instructions in their order, and the name of the template in whose text their body stands
pub record Listing : Type 0 where
  pub file : Name
  pub code : List Instruction
