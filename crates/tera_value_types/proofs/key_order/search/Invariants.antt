use Rattle.std.proofs.Common.{◌-◌, ◌≡◌, ℕ, length, ◌<◌, ◌≤◌, Less, Greater}
use Rattle.tera_value_types.specs.View.{wanted_view, entry_views}
use Rattle.tera_value_types.specs.Keys.{key_cmp}
use Rattle.tera_value_types.specs.Index.{nth_key}
use Rattle.tera_value_types.proofs.key_order.search.Given as goal

abbrev pub invariant-loop-low : goal.invariant-loop-low
invariant-loop-low l = record {
  ordered : l.low ≤ l.high;
  in_range : l.high ≤ length l.by_key;
  smaller : (j : ℕ) → j < l.low → key_cmp (nth_key l.by_key (entry_views l.all) j) (wanted_view l.wanted) ≡ Less;
  greater : (j : ℕ) → l.high ≤ j → j < length l.by_key → key_cmp (nth_key l.by_key (entry_views l.all) j) (wanted_view l.wanted) ≡ Greater;
}

abbrev pub decreases-loop-low : goal.decreases-loop-low
decreases-loop-low l = l.high - l.low
