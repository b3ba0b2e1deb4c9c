use Rattle.std.proofs.Common.{◌≡◌}
use Rattle.tera_state.specs.Scope.{put_turns}
use Rattle.tera_state.specs.Stack.{lower}
use Rattle.tera_state.specs.Opened.{turns_of}
use Rattle.tera_state.proofs.scopes.Scopes.put_turns.Given as goal

abbrev pub invariant-loop-layer : goal.invariant-loop-layer
invariant-loop-layer l = l.names ≡ put_turns (turns_of l.self.bindings l.height (lower l.layer l.self.frame.loops)) l.initial.names
