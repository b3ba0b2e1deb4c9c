use Rattle.std.proofs.Common.{drop}
use Rattle.tera_registry.specs.Kept.{entries_of, seen}
use Rattle.tera_registry.specs.OutsideCalls.{included_by}
use Rattle.tera_registry.proofs.Reaching.{Reaching}
use Rattle.tera_registry.proofs.variables.reach_included.Given as goal

abbrev pub invariant-loop-need : goal.invariant-loop-need
invariant-loop-need l =
    Reaching (entries_of l.templates) (included_by (seen l.templates l.prefixes)) l.of.needs.items (drop l.need-index l.of.needs.items) l.initial.reached.items l.reached.items l.marks
