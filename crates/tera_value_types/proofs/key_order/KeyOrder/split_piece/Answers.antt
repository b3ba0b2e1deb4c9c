use Rattle.std.proofs.Common.{◌≡◌, ◌∷◌, ◌∙◌, ℕ, List, suc, ap, subst, sym, arith}
use Rattle.std.specs.List.{concat, insert}
use Rattle.std.specs.Global.{Global}
use Rattle.std.specs.declared.vec.Vec.{Vec}
use Rattle.tera_value_types.specs.KeyOrder.{rows, pieces, flat, IsFull}
use Rattle.tera_value_types.specs.declared.key_order.KeyOrder.{KeyOrder}
use Rattle.tera_value_types.proofs.Pieces.{Rows, LaterHaveSome, rows_insert}
use Rattle.tera_value_types.proofs.Ordered.{later_filled, full_again, cut_flat, cut_full}
use Rattle.tera_value_types.proofs.key_order.KeyOrder.split_piece.Goals as goal
use Rattle.tera_value_types.proofs.key_order.KeyOrder.split_piece.Goals.{in-Ok, in-Err}

with_later : (o : KeyOrder) (vs : Vec (Vec ℕ Global) Global) (n : ℕ) (w : Vec ℕ Global) → vs.items ≡ insert o.rest.items n w → pieces (record { first = o.first; rest = vs }) ≡ insert (pieces o) (suc n) w.items
with_later o vs n w e = ap (λ (l : List (Vec ℕ Global)). o.first.items ∷ rows l) e ∙ ap (λ (l : Rows). o.first.items ∷ l) (rows_insert o.rest.items n w)

pub returns-clause-same : goal.returns-clause-same
returns-clause-same c =
    let o = c.args.self.now in
    elim c.match-insert.branch [
      | in-Ok w ↦
          ap (λ (s : KeyOrder). flat s) w.self-is
          ∙ cut_flat o (record { first = o.first; rest = c.insert.new.self }) w.shorten.new.self c.args.number 128 c.args.later.items c.requires.there c.requires.long c.requires.behind (with_later o c.insert.new.self c.args.number c.args.later w.in-Ok.ensures.items) w.shorten.ensures
      | in-Err w ↦
          ap (λ (s : KeyOrder). flat s) w.self-is
          ∙ ap (λ (l : List (Vec ℕ Global)). concat (o.first.items ∷ rows l)) w.in-Err.ensures.items
    ]

pub returns-clause-full : goal.returns-clause-full
returns-clause-full c =
    let o = c.args.self.now in
    elim c.match-insert.branch [
      | in-Ok w ↦
          subst IsFull (sym w.self-is)
          (cut_full o (record { first = o.first; rest = c.insert.new.self }) w.shorten.new.self c.args.number 128 c.args.later.items c.requires.there c.requires.long c.requires.behind (with_later o c.insert.new.self c.args.number c.args.later w.in-Ok.ensures.items) w.shorten.ensures (omega arith) c.requires.full)
      | in-Err w ↦
          let same : pieces c.match-insert.self ≡ pieces o = ap (λ (s : KeyOrder). pieces s) w.self-is ∙ ap (λ (l : List (Vec ℕ Global)). o.first.items ∷ rows l) w.in-Err.ensures.items in
          full_again c.match-insert.self (subst LaterHaveSome (sym same) (later_filled o c.requires.full))
    ]
