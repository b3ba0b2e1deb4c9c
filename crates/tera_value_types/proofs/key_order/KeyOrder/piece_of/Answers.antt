use Rattle.std.proofs.Common.{◌≡◌, ◌+◌, ◌-◌, ◌/◌, ◌<◌, ◌≤◌, ℕ, List, length, sym, subst, ◌∙◌, arith, Greater}
use Rattle.tera_value_types.specs.View.{wanted_view, entry_views}
use Rattle.tera_value_types.specs.Index.{nth_key, IsRising}
use Rattle.tera_value_types.specs.Keys.{key_cmp}
use Rattle.tera_value_types.specs.KeyOrder.{pieces, piece_at}
use Rattle.tera_value_types.proofs.Ordered.{rising_piece, some_in}
use Rattle.tera_value_types.proofs.key_order.KeyOrder.piece_of.Goals as goal

pub compare_first-requires : goal.compare_first-requires
compare_first-requires c =
    let m = c.loop-low.low + (c.loop-low.high - c.loop-low.low) / 2 + 1 in
    let there : m ≤ length c.args.self.now.rest.items = omega arith in
    let later : 0 < m = omega arith in
    record {
      rising = subst (λ (l : List ℕ). IsRising l (entry_views c.args.all.now)) (sym c.piece.ensures) (rising_piece c.args.self.now (entry_views c.args.all.now) c.requires m there);
      some = subst (λ (l : List ℕ). 0 < length l) (sym c.piece.ensures) (some_in c.args.self.now (entry_views c.args.all.now) c.requires m there later);
    }

pub loop-low-preserved-in-Greater : goal.loop-low-preserved-in-Greater
loop-low-preserved-in-Greater c = record {
  ordered = omega arith;
  in_range = omega arith;
  from = c.loop-low.invariant.from;
  until = λ _. subst (λ (l : List ℕ). key_cmp (nth_key l (entry_views c.args.all.now) 0) (wanted_view c.args.wanted.now) ≡ Greater) c.piece.ensures (sym c.compare_first.ensures ∙ c.in-Greater.is);
}

pub loop-low-preserved : goal.loop-low-preserved
loop-low-preserved c = record {
  ordered = omega arith;
  in_range = omega arith;
  from = λ _ above. c.in_default.not-Greater (c.compare_first.ensures ∙ subst (λ (l : List ℕ). key_cmp (nth_key l (entry_views c.args.all.now) 0) (wanted_view c.args.wanted.now) ≡ Greater) (sym c.piece.ensures) above);
  until = c.loop-low.invariant.until;
}

pub returns-clause-until : goal.returns-clause-until
returns-clause-until c less =
    let same : c.loop-low.high ≡ c.loop-low.low = omega arith in
    subst (λ (h : ℕ). key_cmp (nth_key (piece_at (pieces c.args.self.now) (h + 1)) (entry_views c.args.all.now) 0) (wanted_view c.args.wanted.now) ≡ Greater) same (c.loop-low.invariant.until (omega (arith, less)))
