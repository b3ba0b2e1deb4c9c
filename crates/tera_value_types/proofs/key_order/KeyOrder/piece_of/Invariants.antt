use Rattle.std.proofs.Common.{◌-◌, ◌+◌, ◌≡◌, length, ◌<◌, ◌≤◌, Greater}
use Rattle.tera_value_types.specs.View.{wanted_view, entry_views}
use Rattle.tera_value_types.specs.Keys.{key_cmp}
use Rattle.tera_value_types.specs.Index.{nth_key}
use Rattle.tera_value_types.specs.KeyOrder.{pieces, piece_at}
use Rattle.tera_value_types.proofs.key_order.KeyOrder.piece_of.Given as goal

abbrev pub invariant-loop-low : goal.invariant-loop-low
invariant-loop-low l = record {
  ordered : l.low ≤ l.high;
  in_range : l.high ≤ length l.self.rest.items;
  from : 0 < l.low → key_cmp (nth_key (piece_at (pieces l.self) l.low) (entry_views l.all) 0) (wanted_view l.wanted) ≡ Greater → ⊥;
  until : l.high < length l.self.rest.items → key_cmp (nth_key (piece_at (pieces l.self) (l.high + 1)) (entry_views l.all) 0) (wanted_view l.wanted) ≡ Greater;
}

abbrev pub decreases-loop-low : goal.decreases-loop-low
decreases-loop-low l = l.high - l.low
