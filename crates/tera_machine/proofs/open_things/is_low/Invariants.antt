use Rattle.tera_machine.proofs.Heights.{NoneFrom}
use Rattle.tera_machine.proofs.open_things.is_low.Given as goal

abbrev pub invariant-loop-height : goal.invariant-loop-height
invariant-loop-height g l = NoneFrom g.T.Numbered.number_of l.number l.start l.height l.things
