use Rattle.std.proofs.Common.{◌≡◌}
use Rattle.tera_registry.specs.Bodies.{start, AreStarts}
use Rattle.tera_registry.specs.Kept.{entries_of}
use Rattle.tera_registry.proofs.numbers.starts.Given as goal

abbrev pub invariant-loop-template : goal.invariant-loop-template
invariant-loop-template l = record {
  starts : AreStarts (entries_of l.templates) l.starts.items l.template-index;
  number : l.number ≡ start (entries_of l.templates) l.template-index;
}
