use Rattle.std.proofs.Common.{◌≡◌, drop}
use Rattle.tera_syntax.specs.Names.{again}
use Rattle.tera_syntax.specs.View.{names_of}
use Rattle.tera_syntax.proofs.blocks.first_repeat_in_few.Given as goal

abbrev pub invariant-loop-at : goal.invariant-loop-at
invariant-loop-at l = again (names_of l.names) ≡ again (names_of (drop l.at l.names))
