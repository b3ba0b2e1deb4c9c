use Rattle.tera_code.specs.Packed.{tables_of}
use Rattle.tera_code.proofs.Noted.{Noted}
use Rattle.tera_code.proofs.settling.settle.Given as goal

abbrev pub invariant-loop-at : goal.invariant-loop-at
invariant-loop-at l = Noted (tables_of l.tables) l.initial.code l.at l.code
