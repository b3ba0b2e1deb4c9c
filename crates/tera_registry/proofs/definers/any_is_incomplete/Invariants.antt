use Rattle.tera_meaning.specs.Accepted.{lacks_something}
use Rattle.tera_registry.proofs.Absent.{NoneYet}
use Rattle.tera_registry.proofs.definers.any_is_incomplete.Given as goal

abbrev pub invariant-loop-position : goal.invariant-loop-position
invariant-loop-position g l = NoneYet (lacks_something g.registry) g.registry.templates l.position

abbrev pub ghost-is_incomplete : goal.ghost-is_incomplete
ghost-is_incomplete g a = g.registry
