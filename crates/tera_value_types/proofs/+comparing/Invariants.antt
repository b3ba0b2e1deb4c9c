use Rattle.std.proofs.Common.{ℕ, length, ◌-◌, ◌≡◌, ◌≤◌, ◌<◌, get_or, drop}
use Rattle.std.specs.Cmp.Lexicographic.{slice_cmp}
use Rattle.tera_value_types.specs.Val.{vals, entries, val_size, vals_size, entries_size}
use Rattle.tera_value_types.specs.View.{entry_views}
use Rattle.tera_value_types.specs.Index.{picked}
use Rattle.tera_value_types.specs.KeyOrder.{left}
use Rattle.tera_value_types.specs.Order.{order, pair_order}
use Rattle.tera_value_types.proofs.+comparing.Given as goal

abbrev pub decreases-value::Value::compare : goal.decreases-value::Value::compare
decreases-value::Value::compare a = val_size a.self.now

abbrev pub decreases-order::compare_items : goal.decreases-order::compare_items
decreases-order::compare_items a = vals_size (vals a.a.now)

abbrev pub decreases-order::compare_entries : goal.decreases-order::compare_entries
decreases-order::compare_entries a = entries_size (entries (entry_views a.a.now))

abbrev pub invariant-order::compare_entries-loop-i : goal.invariant-order::compare_entries-loop-i
invariant-order::compare_entries-loop-i l = record {
  in_a : (p : ℕ) → p < length (left l.a_keys) → get_or (left l.a_keys) p 0 < length l.a;
  in_b : (p : ℕ) → p < length (left l.b_keys) → get_or (left l.b_keys) p 0 < length l.b;
  rest : slice_cmp pair_order (picked (left l.initial.a_keys) (entry_views l.a)) (picked (left l.initial.b_keys) (entry_views l.b)) ≡ slice_cmp pair_order (picked (left l.a_keys) (entry_views l.a)) (picked (left l.b_keys) (entry_views l.b));
}

abbrev pub decreases-order::compare_entries-loop-i : goal.decreases-order::compare_entries-loop-i
decreases-order::compare_entries-loop-i l = length (left l.a_keys)

abbrev pub invariant-order::compare_items-loop-position : goal.invariant-order::compare_items-loop-position
invariant-order::compare_items-loop-position l = record {
  in_a : l.position ≤ length l.a;
  in_b : l.position ≤ length l.b;
  rest : slice_cmp order l.a l.b ≡ slice_cmp order (drop l.position l.a) (drop l.position l.b);
}

abbrev pub decreases-order::compare_items-loop-position : goal.decreases-order::compare_items-loop-position
decreases-order::compare_items-loop-position l = length l.a - l.position
