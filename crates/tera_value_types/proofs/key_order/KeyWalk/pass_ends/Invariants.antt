use Rattle.std.proofs.Common.{◌≡◌, length}
use Rattle.tera_value_types.specs.KeyOrder.{left}
use Rattle.tera_value_types.proofs.key_order.KeyWalk.pass_ends.Given as goal

abbrev pub invariant-loop-piece : goal.invariant-loop-piece
invariant-loop-piece l = left l.self ≡ left l.initial.self

abbrev pub decreases-loop-piece : goal.decreases-loop-piece
decreases-loop-piece l = length l.self.rest.now
