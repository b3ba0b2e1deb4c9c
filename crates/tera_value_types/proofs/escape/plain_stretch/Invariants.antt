use Rattle.std.proofs.Common.{◌-◌, length}
use Rattle.tera_value_types.proofs.Stretches.{IsPast}
use Rattle.tera_value_types.proofs.escape.plain_stretch.Given as goal

abbrev pub invariant-loop-position : goal.invariant-loop-position
invariant-loop-position g l = IsPast g.F.Forms.spelled l.bytes l.initial.position l.position

abbrev pub decreases-loop-position : goal.decreases-loop-position
decreases-loop-position g l = length l.bytes - l.position
