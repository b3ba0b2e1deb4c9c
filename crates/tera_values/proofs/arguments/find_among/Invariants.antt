use Rattle.std.proofs.Common.{◌≡◌, drop}
use Rattle.tera_values.specs.Named.{at_name}
use Rattle.tera_values.proofs.arguments.find_among.Given as goal

abbrev pub invariant-loop-entry : goal.invariant-loop-entry
invariant-loop-entry l = at_name l.name (drop l.entry-index l.entries) ≡ at_name l.name l.entries
