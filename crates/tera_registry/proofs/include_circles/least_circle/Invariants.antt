use Rattle.std.proofs.Common.{◌≡◌, ◌<◌, ℕ, length, false}
use Rattle.tera_registry.specs.Walks.{rows, circles, Explored}
use Rattle.tera_registry.proofs.include_circles.least_circle.Given as goal

abbrev pub invariant-loop-from : goal.invariant-loop-from
invariant-loop-from l = record {
  explored : Explored (rows l.edges) l.passed l.ends;
  all_passed : length l.passed ≡ length l.edges;
  all_ends : length l.ends ≡ length l.edges;
  none_yet : (i : ℕ) → i < l.from → circles (rows l.edges) i ≡ false;
}
