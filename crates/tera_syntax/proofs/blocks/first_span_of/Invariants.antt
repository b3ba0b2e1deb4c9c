use Rattle.std.proofs.Common.{◌≡◌, drop}
use Rattle.tera_syntax.specs.Names.{first_at}
use Rattle.tera_syntax.specs.View.{names_of}
use Rattle.tera_syntax.proofs.blocks.first_span_of.Given as goal

abbrev pub invariant-loop-placed : goal.invariant-loop-placed
invariant-loop-placed l = first_at l.name (names_of l.names) ≡ first_at l.name (names_of (drop l.placed-index l.names))
