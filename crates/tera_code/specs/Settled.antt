-- What is noted in packed instructions of those behind them, once for all who run them.
use Rattle.std.specs.Prelude.{◌≡◌, ℕ, ◌<◌, Bool, true, false, cond, List, length, map, get_or, Option, Some, None}
use Rattle.std.specs.List.{All}
use Rattle.tera_code.specs.InstructionParts.{reads_on_at}
use Rattle.tera_code.specs.Printing.{printing_loop_at}
use Rattle.tera_code.specs.Packed.{TableContents, Within, unpacked}
use Rattle.tera_code.specs.declared.instruction.Instruction.{Instruction}
use Rattle.tera_code.specs.declared.packed.Packed.{Packed}
use Rattle.tera_code.specs.declared.packed.Packed.TheVariants as packed

-- whether something is noted in it of those behind it
abbrev pub has_notes : Packed → Bool
has_notes (packed.LoadName is_used name span) = true
has_notes (packed.StartLoop counts prints names size) = true
has_notes other = false

-- whether it loads a name of which is noted that it is used up
abbrev pub reads_on : Packed → Bool
reads_on (packed.LoadName is_used name span) = is_used
reads_on other = false

-- the size of the body of the loop that it opens, of which is noted that it puts out texts and
-- items alone
abbrev pub printing_size : Packed → Option ℕ
printing_size (packed.StartLoop counts prints names size) = cond prints (Some size) None
printing_size other = None

-- what it notes is what the code has at this position
pub record Notes (code : List Instruction) (at : ℕ) (p : Packed) : Type 0 where
  pub reads : reads_on p ≡ reads_on_at code at
  pub prints : printing_size p ≡ printing_loop_at code at

-- all that these name is there, and what each of them notes is so
pub record Settled (s : TableContents) (ps : List Packed) : Type 0 where
  pub within : All (Within s) ps
  pub notes : (at : ℕ) → at < length ps → Notes (map (unpacked s) ps) at (get_or ps at (packed.WriteText 0 0))
