use Rattle.std.proofs.Common.{◌≡◌, ◌+◌, ◌*◌}
use Rattle.tera_value_types.specs.Val.{vals, entries, val_size, vals_size, entries_size}
use Rattle.tera_value_types.specs.View.{entry_views}
use Rattle.tera_value_types.proofs.+sharing.Given as goal

abbrev pub decreases-value::Value::into_shared : goal.decreases-value::Value::into_shared
decreases-value::Value::into_shared a = 2 * val_size a.self

abbrev pub decreases-copy::share_items : goal.decreases-copy::share_items
decreases-copy::share_items a = 2 * vals_size (vals a.items.now)

abbrev pub decreases-copy::share_entries : goal.decreases-copy::share_entries
decreases-copy::share_entries a = 2 * entries_size (entries (entry_views a.all.now))

abbrev pub invariant-copy::share_items-loop-item : goal.invariant-copy::share_items-loop-item
invariant-copy::share_items-loop-item l = l.items ≡ l.initial.items

abbrev pub invariant-copy::share_entries-loop-entry : goal.invariant-copy::share_entries-loop-entry
invariant-copy::share_entries-loop-entry l = entry_views l.all ≡ entry_views l.initial.all

abbrev pub decreases-copy::share_map : goal.decreases-copy::share_map
decreases-copy::share_map a = 2 * entries_size (entries a.all) + 1

abbrev pub decreases-copy::share : goal.decreases-copy::share
decreases-copy::share a = 2 * val_size a.value.now + 1
