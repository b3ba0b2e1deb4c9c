use Rattle.std.proofs.Common.{◌≡◌, None, take}
use Rattle.tera_errors.specs.Site.{Name}
use Rattle.tera_registry.specs.Kept.{entries_of, seen}
use Rattle.tera_registry.specs.First.{IsFirstAmong}
use Rattle.tera_registry.specs.Choices.{chosen, chosen_from, ties_at}
use Rattle.tera_registry.proofs.component_table.components_by_name.Given as goal

abbrev pub invariant-loop-position : goal.invariant-loop-position
invariant-loop-position l = record {
  taken : (q : Name) → chosen l.taken q ≡ chosen_from (seen l.templates l.prefixes) q 0 (take l.position (entries_of l.templates)) None;
  tie : IsFirstAmong (seen l.templates l.prefixes) (ties_at (seen l.templates l.prefixes)) l.position l.tie;
}
