use Rattle.std.proofs.Common.{◌≡◌, ◌<◌, length, ◌+◌, ◌-◌, ◌*◌, [], ◌∷◌, ◌++◌, not, count_by}
use Rattle.tera_registry.specs.Walks.{rows, Explored}
use Rattle.tera_registry.proofs.HasWalk.{edges_left}
use Rattle.tera_registry.proofs.Ways.{Way}
use Rattle.tera_registry.proofs.include_circles.leads_into_a_circle.Given as goal

abbrev pub invariant-way : goal.invariant-way
invariant-way l = record {
  explored : Explored (rows l.edges) l.passed l.ends;
  here_there : l.here < length l.edges;
  all_passed : length l.passed ≡ length l.edges;
  all_ends : length l.ends ≡ length l.edges;
  going : Way (rows l.edges) l.ends l.from (l.way.items ++ l.here ∷ []);
}

-- twice, as what is ended makes the way shorter too
abbrev pub decreases-way : goal.decreases-way
decreases-way l =
    2 * count_by not l.ends + edges_left (rows l.edges) l.passed + (length l.edges + 1 - length l.way.items)
