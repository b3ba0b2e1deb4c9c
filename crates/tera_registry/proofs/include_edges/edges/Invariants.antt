use Rattle.tera_registry.specs.Walks.{rows}
use Rattle.tera_registry.specs.Edges.{AreEdges}
use Rattle.tera_registry.specs.Kept.{seen}
use Rattle.tera_registry.proofs.include_edges.edges.Given as goal

abbrev pub invariant-loop-template : goal.invariant-loop-template
invariant-loop-template l = AreEdges (seen l.templates l.prefixes) (rows l.all.items) l.template-index
