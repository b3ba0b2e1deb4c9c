use Rattle.std.proofs.Common.{rules, arith, ◌+◌}
use Rattle.tera_state.proofs.Dumped.{next_layer}
use Rattle.tera_state.proofs.scopes.Scopes.put_turns.Goals as goal

pub loop-layer-preserved : goal.loop-layer-preserved
loop-layer-preserved c =
    next_layer c.args.self.now.bindings c.len-height.result c.args.self.now.frame.loops c.args.names.now c.loop-layer.layer (c.loop-layer.layer + 1) c.loop-layer.names c.put_layer.new.names (omega arith) (search rules) c.loop-layer.invariant c.in_ok-put_layer.ensures.ok
