use Rattle.tera_registry.specs.Kept.{seen}
use Rattle.tera_registry.specs.References.{AreLinks}
use Rattle.tera_registry.proofs.body_table.Targets.links.Given as goal

abbrev pub invariant-loop-take : goal.invariant-loop-take
invariant-loop-take l =
    AreLinks (seen l.self.templates.now l.self.prefixes.now) l.self.choices.now l.takes l.links.items l.take-index
