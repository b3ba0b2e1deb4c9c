use Rattle.std.proofs.Common.{◌≡◌, ◌+◌, ◌-◌, ◌/◌, sym, ◌∙◌, arith, Less, Equal, Greater}
use Rattle.tera_value_types.specs.View.{wanted_view, entry_views}
use Rattle.tera_value_types.specs.Keys.{key_cmp}
use Rattle.tera_value_types.specs.Index.{nth_key}
use Rattle.tera_value_types.proofs.Keys.{key_exact}
use Rattle.tera_value_types.proofs.Ordered.{less_in_row, greater_in_row}
use Rattle.tera_value_types.proofs.Entries.{nth_key_of}
use Rattle.tera_value_types.proofs.key_order.search.Goals as goal

pub loop-low-preserved-in-Less : goal.loop-low-preserved-in-Less
loop-low-preserved-in-Less c =
    let m = c.loop-low.low + (c.loop-low.high - c.loop-low.low) / 2 in
    let tested : key_cmp (nth_key c.args.by_key.now (entry_views c.args.all.now) m) (wanted_view c.args.wanted.now) ≡ Less = rw (nth_key_of c.args.by_key.now c.args.all.now c.requires m c.index-all-by_key.result (omega arith)) (sym c.compare_key.ensures ∙ c.in-Less.is) in
    record {
      ordered = omega arith;
      in_range = omega arith;
      smaller = less_in_row c.args.by_key.now (entry_views c.args.all.now) c.requires (wanted_view c.args.wanted.now) m (omega arith) tested;
      greater = c.loop-low.invariant.greater;
    }

pub returns-in-Equal-clause-found : goal.returns-in-Equal-clause-found
returns-in-Equal-clause-found c =
    let m = c.loop-low.low + (c.loop-low.high - c.loop-low.low) / 2 in
    let tested : key_cmp (nth_key c.args.by_key.now (entry_views c.args.all.now) m) (wanted_view c.args.wanted.now) ≡ Equal = rw (nth_key_of c.args.by_key.now c.args.all.now c.requires m c.index-all-by_key.result (omega arith)) (sym c.compare_key.ensures ∙ c.in-Equal.is) in
    record { in_range = omega arith; has_key = key_exact (nth_key c.args.by_key.now (entry_views c.args.all.now) m) (wanted_view c.args.wanted.now) tested }

pub loop-low-preserved : goal.loop-low-preserved
loop-low-preserved c =
    let m = c.loop-low.low + (c.loop-low.high - c.loop-low.low) / 2 in
    let tested : key_cmp (nth_key c.args.by_key.now (entry_views c.args.all.now) m) (wanted_view c.args.wanted.now) ≡ Greater = rw (nth_key_of c.args.by_key.now c.args.all.now c.requires m c.index-all-by_key.result (omega arith)) (sym c.compare_key.ensures ∙ c.in-Greater.is) in
    record {
      ordered = omega arith;
      in_range = omega arith;
      smaller = c.loop-low.invariant.smaller;
      greater = greater_in_row c.args.by_key.now (entry_views c.args.all.now) c.requires (wanted_view c.args.wanted.now) m tested;
    }
