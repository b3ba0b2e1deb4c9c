use Rattle.std.proofs.Common.{◌≡◌, ◌≤◌}
use Rattle.tera_state.specs.Stack.{lower}
use Rattle.tera_state.specs.Scopes.{above_of, bound_above_at}
use Rattle.tera_state.proofs.Beyond.{from_above}
use Rattle.tera_state.proofs.scopes.Scopes.look_implicit_in_frame.Given as goal

abbrev pub invariant-up : goal.invariant-up
invariant-up l = record {
  within : l.left ≤ l.height;
  same : bound_above_at l.self l.height l.body l.name ≡ from_above l.name (above_of l.self.bindings (lower l.left l.self.below));
}

abbrev pub decreases-up : goal.decreases-up
decreases-up l = l.left
