use Rattle.std.proofs.Common.{◌≡◌, ◌<◌, pos, ◌+ℤ◌, ◌*ℤ◌}
use Rattle.tera_built_ins.specs.Functions.{stepping}
use Rattle.tera_built_ins.proofs.functions.range_items.Given as goal

abbrev pub invariant-loop-position : goal.invariant-loop-position
invariant-loop-position l = record {
  items : l.items.items ≡ stepping l.fn.start l.fn.step l._position;
  number : l._position < l.fn.count → l.number ≡ l.fn.start +ℤ (l.fn.step *ℤ pos l._position);
}
