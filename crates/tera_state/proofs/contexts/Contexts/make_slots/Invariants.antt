use Rattle.std.proofs.Common.{◌≡◌, ◌-◌, length}
use Rattle.std.specs.List.{All}
use Rattle.tera_state.specs.Contexts.{IsCached}
use Rattle.tera_state.proofs.contexts.Contexts.make_slots.Given as goal

abbrev pub invariant-loop-self : goal.invariant-loop-self
invariant-loop-self l =
    All (IsCached l.self-inside.context l.self-inside.global) l.self-inside.known.items
    × (l.self-inside.context ≡ l.initial.self-inside.context)
    × (l.self-inside.global ≡ l.initial.self-inside.global)

abbrev pub decreases-loop-self : goal.decreases-loop-self
decreases-loop-self l = l.count - length l.self-inside.known.items
