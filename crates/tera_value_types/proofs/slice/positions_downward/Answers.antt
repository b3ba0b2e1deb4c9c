use Rattle.std.proofs.Common.{◌-◌, arith}
use Rattle.tera_value_types.specs.Slices.{downward}
use Rattle.tera_value_types.proofs.Strides.{down_step, position_more}
use Rattle.tera_value_types.proofs.slice.positions_downward.Goals as goal

pub loop-at-preserved : goal.loop-at-preserved
loop-at-preserved c =
    let start = c.args.start in
    let end = c.args.end in
    let step = c.args.step in
    let at = c.loop-at.at in
    record {
      within = omega arith;
      found = rw c.saturating_sub-at.ensures (position_more c.loop-at.positions.items c.push.new.self.items (at - 1) (downward start (at - step) end step) (downward start at end step) (downward start start end step) c.in_ok-push.ensures.items (down_step start at end step c.requires (omega arith) c.loop-at-test.true) c.loop-at.invariant.found);
    }
