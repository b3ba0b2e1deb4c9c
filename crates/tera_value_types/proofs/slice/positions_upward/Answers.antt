use Rattle.std.proofs.Common.{◌+◌, arith}
use Rattle.tera_value_types.specs.Slices.{upward}
use Rattle.tera_value_types.proofs.Strides.{up_step, position_more}
use Rattle.tera_value_types.proofs.slice.positions_upward.Goals as goal

pub loop-at-preserved : goal.loop-at-preserved
loop-at-preserved c =
    let end = c.args.end in
    let step = c.args.step in
    let at = c.loop-at.at in
    position_more c.loop-at.positions.items c.push.new.self.items at (upward end (at + step) end step) (upward end at end step) (upward end c.args.start end step) c.in_ok-push.ensures.items (up_step end at end step c.requires.moves (omega arith) c.loop-at-test.true) c.loop-at.invariant
