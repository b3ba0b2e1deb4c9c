use Rattle.std.proofs.Common.{◌≡◌, ◌<◌, ◌∷◌, ℕ, List, length, inl, inr, refl, sym, ap, subst, ◌∙◌, arith}
use Rattle.tera_value_types.specs.Val.{array, map, vals, entries}
use Rattle.tera_value_types.specs.Keys.{key_cmp}
use Rattle.tera_value_types.specs.View.{key_view, entry_views}
use Rattle.tera_value_types.specs.Index.{IsIndex}
use Rattle.tera_value_types.specs.KeyOrder.{left}
use Rattle.tera_value_types.specs.Order.{order}
use Rattle.tera_value_types.proofs.Compared.{as_items, as_entries, as_passed, first_in, rest_in, keys_tell, values_tell, rest_tells, entry_below}
use Rattle.tera_value_types.proofs.Entries.{position_below}
use Rattle.tera_value_types.proofs.Steps.{ends}
use Rattle.tera_value_types.proofs.Sizes.{item_below}
use Rattle.tera_value_types.proofs.+comparing.Goals as goal
use Rattle.tera_value_types.proofs.+comparing.Goals.{order::compare_items-then-loop-position-test+else-position-b, order::compare_items-else-loop-position-test}

pub value::Value::compare-returns-in-Array-shape : goal.value::Value::compare-returns-in-Array-shape
value::Value::compare-returns-in-Array-shape t c =
    let ea : array (vals c.in-Array.a.now) ≡ c.args.self.now = c.in-Array.ensures in
    let eb : array (vals c.in-Array-shape.b.now) ≡ c.args.other.now = c.in-Array-shape.ensures in
    c.compare_items.ensures ∙ as_items c.in-Array.a.now c.in-Array-shape.b.now ∙ ap (λ v. order v (array (vals c.in-Array-shape.b.now))) ea ∙ ap (order c.args.self.now) eb

pub value::Value::compare-returns-in-Map-shape : goal.value::Value::compare-returns-in-Map-shape
value::Value::compare-returns-in-Map-shape t c =
    let a = c.entries.result.now in
    let ka = left c.by_key.result in
    let b = c.entries-in-Map-shape.result.now in
    let kb = left c.by_key-in-Map-shape.result in
    let ea : map (entries (entry_views a)) ≡ c.args.self.now = ap (λ es. map (entries es)) c.entries.ensures ∙ c.in-Map.ensures in
    let eb : map (entries (entry_views b)) ≡ c.args.other.now = ap (λ es. map (entries es)) c.entries-in-Map-shape.ensures ∙ c.in-Map-shape.ensures in
    let ia : IsIndex ka (entry_views a) = subst (IsIndex ka) (sym c.entries.ensures) c.by_key.ensures in
    let ib : IsIndex kb (entry_views b) = subst (IsIndex kb) (sym c.entries-in-Map-shape.ensures) c.by_key-in-Map-shape.ensures in
    c.compare_entries.ensures ∙ as_entries ka kb (entry_views a) (entry_views b) ia ib ∙ ap (λ v. order v (map (entries (entry_views b)))) ea ∙ ap (order c.args.self.now) eb

pub order::compare_entries-loop-i-init : goal.order::compare_entries-loop-i-init
order::compare_entries-loop-i-init t c = record {
  in_a = position_below (left c.args.a_keys) c.args.a.now c.requires.first;
  in_b = position_below (left c.args.b_keys) c.args.b.now c.requires.second;
  rest = refl;
}

pub order::compare_entries-loop-i-smaller : goal.order::compare_entries-loop-i-smaller
order::compare_entries-loop-i-smaller t c = omega (arith, ap (λ (l : List ℕ). length l) c.in-Some.ensures)

pub order::compare_entries-bounds-a-i : goal.order::compare_entries-bounds-a-i
order::compare_entries-bounds-a-i t c = first_in (left c.loop-i.a_keys) (left c.next.new.self) c.in-Some.i (length c.args.a.now) c.in-Some.ensures c.loop-i.invariant.in_a

pub order::compare_entries-bounds-b-j : goal.order::compare_entries-bounds-b-j
order::compare_entries-bounds-b-j t c = first_in (left c.loop-i.b_keys) (left c.next-in-Some.new.self) c.in-Some-next.j (length c.args.b.now) c.in-Some-next.ensures c.loop-i.invariant.in_b

pub order::compare_entries-returns-then-is_ne : goal.order::compare_entries-returns-then-is_ne
order::compare_entries-returns-then-is_ne t c =
    let in_a : c.in-Some.i < length c.args.a.now = first_in (left c.loop-i.a_keys) (left c.next.new.self) c.in-Some.i (length c.args.a.now) c.in-Some.ensures c.loop-i.invariant.in_a in
    let in_b : c.in-Some-next.j < length c.args.b.now = first_in (left c.loop-i.b_keys) (left c.next-in-Some.new.self) c.in-Some-next.j (length c.args.b.now) c.in-Some-next.ensures c.loop-i.invariant.in_b in
    let keys = c.compare_key-keys.ensures ∙ ap (key_cmp (key_view c.index-a-i.result.key)) c.as_key_ref.ensures in
    keys_tell (left c.next.new.self) (left c.next-in-Some.new.self) c.args.a.now c.args.b.now c.in-Some.i c.in-Some-next.j c.index-a-i.result c.index-b-j.result in_a in_b c.index-a-i.is c.index-b-j.is c.compare_key-keys.result keys (sym c.is_ne.ensures ∙ c.if-is_ne.true) ∙ sym (as_passed (left c.loop-i.a_keys) (c.in-Some.i ∷ left c.next.new.self) (left c.loop-i.b_keys) (c.in-Some-next.j ∷ left c.next-in-Some.new.self) c.args.a.now c.args.b.now c.in-Some.ensures c.in-Some-next.ensures) ∙ sym c.loop-i.invariant.rest

pub order::compare_entries-compare-values-requires : goal.order::compare_entries-compare-values-requires
order::compare_entries-compare-values-requires t c =
    let in_a : c.in-Some.i < length c.args.a.now = first_in (left c.loop-i.a_keys) (left c.next.new.self) c.in-Some.i (length c.args.a.now) c.in-Some.ensures c.loop-i.invariant.in_a in
    let below = entry_below c.args.a.now c.in-Some.i c.index-a-i.result in_a c.index-a-i.is in
    (omega (arith, below, c.decreases), tt)

pub order::compare_entries-returns-then-is_ne-2 : goal.order::compare_entries-returns-then-is_ne-2
order::compare_entries-returns-then-is_ne-2 t c =
    let in_a : c.in-Some.i < length c.args.a.now = first_in (left c.loop-i.a_keys) (left c.next.new.self) c.in-Some.i (length c.args.a.now) c.in-Some.ensures c.loop-i.invariant.in_a in
    let in_b : c.in-Some-next.j < length c.args.b.now = first_in (left c.loop-i.b_keys) (left c.next-in-Some.new.self) c.in-Some-next.j (length c.args.b.now) c.in-Some-next.ensures c.loop-i.invariant.in_b in
    let keys = c.compare_key-keys.ensures ∙ ap (key_cmp (key_view c.index-a-i.result.key)) c.as_key_ref.ensures in
    values_tell (left c.next.new.self) (left c.next-in-Some.new.self) c.args.a.now c.args.b.now c.in-Some.i c.in-Some-next.j c.index-a-i.result c.index-b-j.result in_a in_b c.index-a-i.is c.index-b-j.is c.compare_key-keys.result c.compare-values.result keys (sym c.is_ne.ensures ∙ c.if-is_ne.false) c.compare-values.ensures (sym c.is_ne-in-Some.ensures ∙ c.if-is_ne-2.true) ∙ sym (as_passed (left c.loop-i.a_keys) (c.in-Some.i ∷ left c.next.new.self) (left c.loop-i.b_keys) (c.in-Some-next.j ∷ left c.next-in-Some.new.self) c.args.a.now c.args.b.now c.in-Some.ensures c.in-Some-next.ensures) ∙ sym c.loop-i.invariant.rest

pub order::compare_entries-loop-i-preserved : goal.order::compare_entries-loop-i-preserved
order::compare_entries-loop-i-preserved t c =
    let in_a : c.in-Some.i < length c.args.a.now = first_in (left c.loop-i.a_keys) (left c.next.new.self) c.in-Some.i (length c.args.a.now) c.in-Some.ensures c.loop-i.invariant.in_a in
    let in_b : c.in-Some-next.j < length c.args.b.now = first_in (left c.loop-i.b_keys) (left c.next-in-Some.new.self) c.in-Some-next.j (length c.args.b.now) c.in-Some-next.ensures c.loop-i.invariant.in_b in
    let keys = c.compare_key-keys.ensures ∙ ap (key_cmp (key_view c.index-a-i.result.key)) c.as_key_ref.ensures in
    record {
      in_a = rest_in (left c.loop-i.a_keys) (left c.next.new.self) c.in-Some.i (length c.args.a.now) c.in-Some.ensures c.loop-i.invariant.in_a;
      in_b = rest_in (left c.loop-i.b_keys) (left c.next-in-Some.new.self) c.in-Some-next.j (length c.args.b.now) c.in-Some-next.ensures c.loop-i.invariant.in_b;
      rest = c.loop-i.invariant.rest ∙ as_passed (left c.loop-i.a_keys) (c.in-Some.i ∷ left c.next.new.self) (left c.loop-i.b_keys) (c.in-Some-next.j ∷ left c.next-in-Some.new.self) c.args.a.now c.args.b.now c.in-Some.ensures c.in-Some-next.ensures ∙ rest_tells (left c.next.new.self) (left c.next-in-Some.new.self) c.args.a.now c.args.b.now c.in-Some.i c.in-Some-next.j c.index-a-i.result c.index-b-j.result in_a in_b c.index-a-i.is c.index-b-j.is c.compare_key-keys.result c.compare-values.result keys (sym c.is_ne.ensures ∙ c.if-is_ne.false) c.compare-values.ensures (sym c.is_ne-in-Some.ensures ∙ c.if-is_ne-2.false);
    }

pub order::compare_items-compare-answer-requires : goal.order::compare_items-compare-answer-requires
order::compare_items-compare-answer-requires t c = (let below = item_below c.args.a.now c.loop-position.position c.index-a-position.result c.loop-position-test.true c.index-a-position.is in omega (arith, below, c.decreases), tt)

pub order::compare_items-returns : goal.order::compare_items-returns
order::compare_items-returns t c =
    c.cmp.ensures
    ∙ sym (ends order c.args.a.now c.args.b.now c.loop-position.position c.loop-position.invariant.in_a c.loop-position.invariant.in_b (elim c.loop-position-test.branch [
      | order::compare_items-then-loop-position-test+else-position-b w ↦ inr w.if-position-b.false
      | order::compare_items-else-loop-position-test w ↦ inl w.loop-position-test.false
    ]))
    ∙ sym c.loop-position.invariant.rest
