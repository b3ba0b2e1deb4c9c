use Rattle.std.proofs.Common.{◌≡◌, ◌<◌, ℕ, [], map, false, string_bytes, nat_eq, slice_index_or}
use Rattle.std.specs.List.{starts_with}
use Rattle.tera_registry.proofs.priority.priority.Given as goal

abbrev pub invariant-loop-position : goal.invariant-loop-position
invariant-loop-position l =
    (k : ℕ) → k < l.position → starts_with nat_eq l.name (slice_index_or (map string_bytes l.prefixes) k []) ≡ false
