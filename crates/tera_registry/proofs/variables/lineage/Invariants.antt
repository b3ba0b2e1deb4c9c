use Rattle.std.proofs.Common.{◌≡◌, ◌<◌, ◌∷◌, ◌++◌, length, Some, slice_get}
use Rattle.tera_meaning.specs.Lineage.{ancestors}
use Rattle.tera_meaning.specs.Registry.{Entry}
use Rattle.tera_registry.specs.Definers.{ancestors_at}
use Rattle.tera_registry.specs.Edges.{all_at, AreThere}
use Rattle.tera_registry.specs.Kept.{entries_of, seen}
use Rattle.tera_registry.proofs.variables.lineage.Given as goal

abbrev pub invariant-up : goal.invariant-up
invariant-up l = record {
  there : l.last < length l.templates;
  inside : AreThere l.positions.items (length l.templates);
  so_far : (t u : Entry) → slice_get (entries_of l.templates) l.from ≡ Some t → slice_get (entries_of l.templates) l.last ≡ Some u → all_at (entries_of l.templates) l.positions.items ++ u ∷ ancestors (seen l.templates l.prefixes) u ≡ t ∷ ancestors (seen l.templates l.prefixes) t;
}

abbrev pub decreases-up : goal.decreases-up
decreases-up l = length (ancestors_at (seen l.templates l.prefixes) (slice_get (entries_of l.templates) l.last))
