use Rattle.std.proofs.Common.{◌≡◌, ◌+◌, ◌-◌, ◌<◌, length, ap, subst, sym, arith, Result, Ok, Err, OnErr}
use Rattle.std.specs.List.{concat}
use Rattle.tera_value_types.proofs.Pieces.{LaterHaveSome, same_later, put_later, put_some}
use Rattle.tera_value_types.proofs.Ordered.{later_filled, full_again}
use Rattle.tera_value_types.proofs.key_order.KeyOrder.put.Goals as goal

when_err : {T E P : Type 0} (r : Result T E) → P → OnErr r P
when_err (Ok x) p = tt
when_err (Err y) p = p

pub returns-in_ok-insert-2-clause-ok : goal.returns-in_ok-insert-2-clause-ok
returns-in_ok-insert-2-clause-ok c =
    let o = c.args.self.now in
    let n = c.args.gap.piece in
    let m = n - 1 in
    let next : n ≡ m + 1 = omega arith in
    let there : m < length o.rest.items = omega (arith, c.requires.inside.piece) in
    put_later o.first.items o.rest.items n m c.index_mut-later.result.now c.insert-else-gap-eq0.new.self next there c.index_mut-later.ensures.value c.args.gap.at c.args.position c.in_ok-insert-2.ensures.items c.requires.inside.at

pub returns-in_ok-insert-2-clause-full : goal.returns-in_ok-insert-2-clause-full
returns-in_ok-insert-2-clause-full c =
    let o = c.args.self.now in
    let n = c.args.gap.piece in
    let m = n - 1 in
    let next : n ≡ m + 1 = omega arith in
    let there : m < length o.rest.items = omega (arith, c.requires.inside.piece) in
    full_again _ (put_some o.first.items o.rest.items n m c.index_mut-later.result.now c.insert-else-gap-eq0.new.self next there c.index_mut-later.ensures.value c.args.gap.at c.args.position c.in_ok-insert-2.ensures.items c.requires.inside.at (later_filled o c.requires.full))

pub returns-in_err-insert-2-clause-err : goal.returns-in_err-insert-2-clause-err
returns-in_err-insert-2-clause-err c =
    let o = c.args.self.now in
    let n = c.args.gap.piece in
    let m = n - 1 in
    let next : n ≡ m + 1 = omega arith in
    let there : m < length o.rest.items = omega (arith, c.requires.inside.piece) in
    when_err c.from_residual-in_err-insert-2.result (ap concat (same_later o.first.items o.rest.items n m c.index_mut-later.result.now c.insert-else-gap-eq0.new.self next there c.index_mut-later.ensures.value c.in_err-insert-2.ensures.items))

pub returns-in_err-insert-2-clause-full : goal.returns-in_err-insert-2-clause-full
returns-in_err-insert-2-clause-full c =
    let o = c.args.self.now in
    let n = c.args.gap.piece in
    let m = n - 1 in
    let next : n ≡ m + 1 = omega arith in
    let there : m < length o.rest.items = omega (arith, c.requires.inside.piece) in
    full_again _ (subst LaterHaveSome (sym (same_later o.first.items o.rest.items n m c.index_mut-later.result.now c.insert-else-gap-eq0.new.self next there c.index_mut-later.ensures.value c.in_err-insert-2.ensures.items)) (later_filled o c.requires.full))
