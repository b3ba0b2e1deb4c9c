-- What instructions do that are done together.
use Rattle.std.specs.Prelude.{ℕ, zero, suc, ◌+◌, Option, Some, None, option_and_then, slice_get}
use Rattle.tera_meaning.specs.Here.{Here}
use Rattle.tera_code.specs.declared.instruction.Instruction.{Instruction}
use Rattle.tera_code.specs.Code.{Code}
use Rattle.tera_machine.specs.Config.{Config}
use Rattle.tera_machine.specs.Flow.{On, Skip, To, Out, Ask}
use Rattle.tera_machine.specs.Did.{Did, Goes, Faults, Sticks}
use Rattle.tera_machine.specs.Effect.{effect}

-- what the instruction at a position does, where there is one
abbrev pub done_at : Here → ℕ → Option Instruction → Config → Did
done_at here ip None c = Sticks
done_at here ip (Some i) c = effect here (ip + 1) i c

-- the position of the next one, unless a body is taken between them
abbrev pub onward : ℕ → Did → Option (ℕ × Config)
onward ip (Goes c On) = Some (ip + 1, c)
onward ip (Goes c (Skip n)) = Some (ip + 1 + n, c)
onward ip (Goes c (To p n)) = Some (p + n, c)
onward ip (Goes c Out) = None
onward ip (Goes c (Ask q u)) = None
onward ip (Faults f) = None
onward ip Sticks = None

-- where so many instructions lead, the first of which stands at this position
abbrev pub after_steps : Here → Code → ℕ → ℕ → Config → Option (ℕ × Config)
after_steps here code zero ip c = Some (ip, c)
after_steps here code (suc k) ip c =
    option_and_then (λ s. onward s.0 (done_at here s.0 (slice_get code s.0) s.1))
    (after_steps here code k ip c)

-- what the instruction does to which they lead
abbrev pub done_there : Here → Code → Option (ℕ × Config) → Did
done_there here code None = Sticks
done_there here code (Some s) = done_at here s.0 (slice_get code s.0) s.1

-- so many instructions from a position on, one behind another; the last of them may do anything
abbrev pub done : Here → Code → ℕ → ℕ → Config → Did
done here code zero ip c = Goes c On
done here code (suc k) ip c = done_there here code (after_steps here code k ip c)
