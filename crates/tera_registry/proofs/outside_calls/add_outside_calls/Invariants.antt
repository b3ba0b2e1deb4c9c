use Rattle.std.proofs.Common.{◌≡◌, ◌++◌, drop}
use Rattle.tera_registry.specs.OutsideCalls.{code_needs}
use Rattle.tera_registry.proofs.outside_calls.add_outside_calls.Given as goal

abbrev pub invariant-loop-position : goal.invariant-loop-position
invariant-loop-position l =
    l.needs.items ++ code_needs (drop l.position l.chunk.code) ≡ l.initial.needs.items ++ code_needs l.chunk.code
