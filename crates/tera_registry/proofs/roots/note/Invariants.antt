use Rattle.std.proofs.Common.{◌≡◌, ◌<◌, ◌-◌, length, Some, slice_get}
use Rattle.tera_meaning.specs.Registry.{Registry, Entry}
use Rattle.tera_registry.specs.Links.{AreUps, AreTops, Stands}
use Rattle.tera_registry.proofs.roots.note.Given as goal

abbrev pub invariant-loop-passed : goal.invariant-loop-passed
invariant-loop-passed l = record {
  last_there : l.last < length l.ups;
  as_many : length l.tops ≡ length l.ups;
  known : (r : Registry) (t : Entry) → AreUps r l.ups (length r.templates) → AreTops r l.fn.tops → slice_get r.templates l.of ≡ Some t → Stands r t l.top → AreTops r l.tops;
  stands : (r : Registry) (t u : Entry) → AreUps r l.ups (length r.templates) → slice_get r.templates l.of ≡ Some t → Stands r t l.top → slice_get r.templates l.last ≡ Some u → Stands r u (record { root = l.top.root; parents = l.top.parents - l.passed });
}
