use Rattle.tera_syntax.proofs.Again.{AreRead, position}
use Rattle.tera_syntax.proofs.blocks.first_repeat_in_many.Given as goal

abbrev pub invariant-loop-at : goal.invariant-loop-at
invariant-loop-at l = AreRead l.names l.at (position l.behind) l.found

abbrev pub decreases-loop-at : goal.decreases-loop-at
decreases-loop-at l = l.at
