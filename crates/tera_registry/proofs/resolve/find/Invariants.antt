use Rattle.std.proofs.Common.{◌-◌, ◌++◌, length, ◌≤◌}
use Rattle.tera_registry.specs.Positions.{After, Before}
use Rattle.tera_registry.specs.Kept.{entries_of}
use Rattle.tera_registry.proofs.resolve.find.Given as goal

abbrev pub invariant-halves : goal.invariant-halves
invariant-halves l = record {
  low_high : l.low ≤ l.high;
  high_len : l.high ≤ length l.templates;
  after : After (entries_of l.templates) (l.front ++ l.back) l.low;
  before : Before (entries_of l.templates) (l.front ++ l.back) l.high;
}

abbrev pub decreases-halves : goal.decreases-halves
decreases-halves l = l.high - l.low
