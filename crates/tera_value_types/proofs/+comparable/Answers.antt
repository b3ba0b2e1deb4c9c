use Rattle.std.proofs.Common.{inl, inr, Some, None, Ordering, cond, ap, sym, ◌∙◌, arith}
use Rattle.tera_value_types.specs.Val.{Val, array, vals}
use Rattle.tera_value_types.specs.Order.{comparable_items, checked_order}
use Rattle.tera_value_types.proofs.Sizes.{item_below}
use Rattle.tera_value_types.proofs.Compared.{as_items}
use Rattle.tera_value_types.proofs.Checked.{checked_ends}
use Rattle.tera_value_types.proofs.+comparable.Goals.{order::checked_cmp_items-then-loop-position-test+else-position-b, order::checked_cmp_items-else-loop-position-test}
use Rattle.tera_value_types.proofs.+comparable.Goals as goal

pub order::checked_cmp_items-checked_cmp-requires : goal.order::checked_cmp_items-checked_cmp-requires
order::checked_cmp_items-checked_cmp-requires t c = (let below = item_below c.args.a.now c.loop-position.position c.index-a-position.result c.loop-position-test.true c.index-a-position.is in omega (arith, below, c.decreases), tt)

pub order::checked_cmp_items-returns : goal.order::checked_cmp_items-returns
order::checked_cmp_items-returns t c =
    ap Some c.cmp.ensures
    ∙ sym (checked_ends c.args.a.now c.args.b.now c.loop-position.position c.loop-position.invariant.in_a c.loop-position.invariant.in_b (elim c.loop-position-test.branch [
      | order::checked_cmp_items-then-loop-position-test+else-position-b w ↦ inr w.if-position-b.false
      | order::checked_cmp_items-else-loop-position-test w ↦ inl w.loop-position-test.false
    ]))
    ∙ sym c.loop-position.invariant.rest

pub value::Value::checked_cmp-returns-in-Array-shape : goal.value::Value::checked_cmp-returns-in-Array-shape
value::Value::checked_cmp-returns-in-Array-shape t c =
    let a = c.in-Array.a.now in
    let b = c.in-Array-shape.b.now in
    c.checked_cmp_items.ensures
    ∙ ap (λ (o : Ordering). cond (comparable_items (vals a) (vals b)) (Some o) None) (as_items a b)
    ∙ ap (λ (v : Val). checked_order v (array (vals b))) c.in-Array.ensures
    ∙ ap (checked_order c.args.self.now) c.in-Array-shape.ensures
