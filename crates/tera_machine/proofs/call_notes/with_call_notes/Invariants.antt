use Rattle.std.proofs.Common.{◌≡◌}
use Rattle.tera_machine.proofs.call_notes.with_call_notes.Given as goal

abbrev pub invariant-loop-below : goal.invariant-loop-below
invariant-loop-below l = l.error ≡ l.fn.error
