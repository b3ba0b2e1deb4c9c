use Rattle.std.proofs.Common.{◌≡◌, ◌<◌, ◌∷◌, length, Some, slice_get}
use Rattle.tera_meaning.specs.Lineage.{ancestors}
use Rattle.tera_meaning.specs.Registry.{Entry}
use Rattle.tera_registry.specs.Definers.{ancestors_at}
use Rattle.tera_registry.specs.Numbers.{lineage}
use Rattle.tera_registry.proofs.definers.first_definer.Given as goal

abbrev pub invariant-up : goal.invariant-up
invariant-up g l = record {
  there : l.last < length l.templates;
  listed : l.last < length l.ups;
  same : (t u : Entry) → slice_get g.registry.templates l.from ≡ Some t → slice_get g.registry.templates l.last ≡ Some u → lineage g.registry l.block (t ∷ ancestors g.registry t) ≡ lineage g.registry l.block (u ∷ ancestors g.registry u);
}

abbrev pub decreases-up : goal.decreases-up
decreases-up g l = length (ancestors_at g.registry (slice_get g.registry.templates l.last))
