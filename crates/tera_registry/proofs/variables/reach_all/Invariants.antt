use Rattle.std.proofs.Common.{◌≡◌, drop, length, slice_get}
use Rattle.tera_registry.specs.Reached.{AreReached}
use Rattle.tera_registry.proofs.Reaching.{Reaching}
use Rattle.tera_registry.proofs.variables.reach_all.Given as goal

abbrev pub invariant-loop-position : goal.invariant-loop-position
invariant-loop-position l = record {
  as_many : length l.marks ≡ length l.initial.marks;
  reaching : (es : _) → AreReached es l.initial.reached.items l.initial.marks → Reaching es (slice_get es) l.positions (drop l.position-index l.positions) l.initial.reached.items l.reached.items l.marks;
}
