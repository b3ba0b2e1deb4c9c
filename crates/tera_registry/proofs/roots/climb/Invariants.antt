use Rattle.std.proofs.Common.{◌≡◌, ◌<◌, ◌-◌, length, Some, slice_get}
use Rattle.tera_meaning.specs.Registry.{Registry, Entry}
use Rattle.tera_registry.specs.Links.{AreUps}
use Rattle.tera_registry.proofs.Climb.{Climbed}
use Rattle.tera_registry.proofs.roots.climb.Given as goal

abbrev pub invariant-loop-step : goal.invariant-loop-step
invariant-loop-step l = record {
  last_there : l.last < length l.ups;
  climbed : (r : Registry) (t u : Entry) → AreUps r l.ups (length r.templates) → slice_get r.templates l.of ≡ Some t → slice_get r.templates l.last ≡ Some u → Climbed r t u l.step (length l.ups - l.step);
}
