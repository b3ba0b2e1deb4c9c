use Rattle.std.proofs.Common.{◌≡◌, ◌<◌, ◌++◌, ℕ, map, Some, None, List, string_bytes, slice_get}
use Rattle.tera_meaning.specs.Resolve.{entry_at}
use Rattle.tera_registry.specs.Kept.{entries_of}
use Rattle.tera_registry.proofs.resolve.resolve.Given as goal

abbrev pub invariant-loop-prefix : goal.invariant-loop-prefix
invariant-loop-prefix l = record {
  exact_none : entry_at l.name (entries_of l.templates) ≡ None;
  none : (k : ℕ) (p : List ℕ) → k < l.prefix-index → slice_get (map string_bytes l.prefixes) k ≡ Some p → entry_at (p ++ l.name) (entries_of l.templates) ≡ None;
}
