use Rattle.std.proofs.Common.{◌≡◌, ◌≤◌}
use Rattle.tera_state.specs.Scopes.{handed_at}
use Rattle.tera_state.proofs.scopes.Scopes.look_in_includers.Given as goal

abbrev pub invariant-down : goal.invariant-down
invariant-down l = record {
  within : l.left ≤ l.height;
  handed : handed_at l.self l.left l.name ≡ handed_at l.self l.height l.name;
}

abbrev pub decreases-down : goal.decreases-down
decreases-down l = l.left
