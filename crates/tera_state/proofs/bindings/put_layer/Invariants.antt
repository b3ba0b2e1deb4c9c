use Rattle.std.proofs.Common.{◌≡◌, drop}
use Rattle.tera_values.specs.Named.{put_all}
use Rattle.tera_state.specs.Bound.{layer_of}
use Rattle.tera_state.proofs.bindings.put_layer.Given as goal

abbrev pub invariant-loop-b : goal.invariant-loop-b
invariant-loop-b l = put_all (layer_of (drop l.b-index l.items) l.fn.frame l.fn.layer) l.names ≡ put_all (layer_of l.items l.fn.frame l.fn.layer) l.initial.names
