-- Positions that are kept for jumps while what they pass is written. No public contract speaks of
-- them.
use Rattle.std.specs.Prelude.{ℕ, suc, ◌-◌, Bool, [], ◌∷◌, length, set, option_copied}
use Rattle.tera_syntax_tree.specs.declared.expression.Heading.{Heading}
use Rattle.tera_code.specs.declared.instruction.Instruction.{Instruction}
use Rattle.tera_code.specs.declared.instruction.Instruction.TheVariants as instruction
use Rattle.tera_code.specs.Listing.{Listing}
use Rattle.tera_code.specs.Code.{lengthened}

abbrev pub start_loop : Heading → Bool → ℕ → Instruction
start_loop h counts size = instruction.StartLoop (option_copied h.key) h.name.now counts size

-- with an instruction at the position that was kept for it
abbrev pub filled : ℕ → Instruction → Listing → Listing
filled position i l = record l { code = set l.code position i }

-- how many instructions stand behind a position
abbrev pub behind : ℕ → Listing → ℕ
behind position l = length l.code - suc position

-- a position is kept behind the first of two parts, and the position before that part jumps behind
-- both
abbrev pub divided : ℕ → Listing → Listing
divided position l =
    let next = lengthened l (instruction.Jump 0 ∷ []) in
    filled position (instruction.PopJumpIfFalse (behind position next)) next

-- a loop starts at a position, and what stands behind that is its turn
abbrev pub looped : ℕ → Heading → Bool → Listing → Listing
looped position h counts l =
    lengthened (filled position (start_loop h counts (behind position l)) l)
    (instruction.NextTurn ∷ [])
