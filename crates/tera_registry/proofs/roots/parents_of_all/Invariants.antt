use Rattle.tera_registry.specs.Links.{AreUps}
use Rattle.tera_registry.specs.Kept.{seen}
use Rattle.tera_registry.proofs.roots.parents_of_all.Given as goal

abbrev pub invariant-loop-template : goal.invariant-loop-template
invariant-loop-template l = AreUps (seen l.templates l.prefixes) l.all.items l.template-index
