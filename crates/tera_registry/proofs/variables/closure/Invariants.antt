use Rattle.tera_registry.specs.Kept.{seen}
use Rattle.tera_registry.proofs.Reaching.{Closing}
use Rattle.tera_registry.proofs.variables.closure.Given as goal

abbrev pub invariant-loop-next : goal.invariant-loop-next
invariant-loop-next l = Closing (seen l.templates l.prefixes) l.from l.next l.reached.items l.marks
