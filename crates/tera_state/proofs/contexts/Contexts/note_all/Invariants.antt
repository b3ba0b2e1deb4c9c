use Rattle.std.proofs.Common.{◌≡◌}
use Rattle.tera_state.proofs.contexts.Contexts.note_all.Given as goal

abbrev pub invariant-loop-name : goal.invariant-loop-name
invariant-loop-name l = l.self ≡ l.initial.self
