use Rattle.std.proofs.Common.{length}
use Rattle.tera_registry.specs.Edges.{all_at, AreThere}
use Rattle.tera_registry.specs.Kept.{entries_of, seen}
use Rattle.tera_registry.specs.OutsideCalls.{included_by}
use Rattle.tera_registry.proofs.Filled.{Filled}
use Rattle.tera_registry.proofs.include_edges.included_positions.Given as goal

abbrev pub invariant-loop-need : goal.invariant-loop-need
invariant-loop-need l = record {
  there : AreThere l.positions.items (length l.templates);
  filled : Filled (included_by (seen l.templates l.prefixes)) l.of.needs.items (all_at (entries_of l.templates) l.positions.items) l.need-index;
}
