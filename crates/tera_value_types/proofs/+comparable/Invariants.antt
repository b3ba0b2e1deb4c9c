use Rattle.std.proofs.Common.{length, ◌-◌, ◌≡◌, ◌≤◌, drop}
use Rattle.tera_value_types.specs.Val.{vals, val_size, vals_size}
use Rattle.tera_value_types.specs.Order.{checked_items}
use Rattle.tera_value_types.proofs.+comparable.Given as goal

abbrev pub decreases-value::Value::checked_cmp : goal.decreases-value::Value::checked_cmp
decreases-value::Value::checked_cmp a = val_size a.self.now

abbrev pub decreases-order::checked_cmp_items : goal.decreases-order::checked_cmp_items
decreases-order::checked_cmp_items a = vals_size (vals a.a.now)

abbrev pub invariant-order::checked_cmp_items-loop-position : goal.invariant-order::checked_cmp_items-loop-position
invariant-order::checked_cmp_items-loop-position l = record {
  in_a : l.position ≤ length l.a;
  in_b : l.position ≤ length l.b;
  rest : checked_items l.a l.b ≡ checked_items (drop l.position l.a) (drop l.position l.b);
}

abbrev pub decreases-order::checked_cmp_items-loop-position : goal.decreases-order::checked_cmp_items-loop-position
decreases-order::checked_cmp_items-loop-position l = length l.a - l.position
