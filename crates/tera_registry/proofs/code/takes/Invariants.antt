use Rattle.std.proofs.Common.{◌≡◌, ◌++◌, drop}
use Rattle.tera_registry.specs.Takes.{takes_from, takes_of}
use Rattle.tera_registry.proofs.code.takes.Given as goal

abbrev pub invariant-loop-position : goal.invariant-loop-position
invariant-loop-position l =
    l.found.items ++ takes_from l.position (drop l.position l.chunk.code) ≡ takes_of l.chunk.code
