use Rattle.std.proofs.Common.{◌≡◌, ◌++◌, drop, string_bytes}
use Rattle.tera_value_types.specs.Val.{vals, entries}
use Rattle.tera_value_types.specs.View.{entry_views}
use Rattle.tera_value_types.specs.Growth.{Keeps}
use Rattle.tera_value_types.specs.Printed.{rest_inside, pairs_inside}
use Rattle.tera_value_types.proofs.+printing.Given as goal

abbrev pub invariant-print::append_items-loop-item : goal.invariant-print::append_items-loop-item
invariant-print::append_items-loop-item l = record {
  written : string_bytes l.out ++ rest_inside (vals (drop l.item-index l.rest)) ≡ string_bytes l.initial.out ++ rest_inside (vals l.rest);
  keeps : Keeps (string_bytes l.fn.out) (string_bytes l.out);
}

abbrev pub invariant-print::append_entries-loop-entry : goal.invariant-print::append_entries-loop-entry
invariant-print::append_entries-loop-entry l = record {
  written : string_bytes l.out ++ pairs_inside (entries (entry_views (drop l.entry-index l.rest))) ≡ string_bytes l.initial.out ++ pairs_inside (entries (entry_views l.rest));
  keeps : Keeps (string_bytes l.fn.out) (string_bytes l.out);
}
