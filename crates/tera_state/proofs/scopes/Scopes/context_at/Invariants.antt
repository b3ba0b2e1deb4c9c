use Rattle.std.proofs.Common.{◌≡◌, ◌≤◌}
use Rattle.tera_state.specs.Stack.{lower}
use Rattle.tera_state.specs.Scopes.{context_of}
use Rattle.tera_state.specs.declared.frame.FrameKind.TheVariants as standing
use Rattle.tera_state.proofs.scopes.Scopes.context_at.Given as goal

abbrev pub invariant-down : goal.invariant-down
invariant-down l = record {
  within : l.left ≤ l.height;
  same : context_of l.body.standing (lower l.height l.self.below) ≡ context_of standing.Include (lower l.left l.self.below);
}

abbrev pub decreases-down : goal.decreases-down
decreases-down l = l.left
