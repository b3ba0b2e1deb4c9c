use Rattle.std.proofs.Common.{◌≡◌, true, take}
use Rattle.tera_operators.specs.Entries.{are_named}
use Rattle.tera_operators.proofs.map_entries.map_named.Given as goal

abbrev pub invariant-loop-position : goal.invariant-loop-position
invariant-loop-position l = are_named l.names (take l.position l.map) ≡ true
