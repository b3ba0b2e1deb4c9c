use Rattle.std.proofs.Common.{rules, ◌≡◌, ◌≤◌, [], Ok, Err, List, sym, ap, subst, drop, length, arith, ◌+◌}
use Rattle.std.proofs.lemmas.List.{drop_all}
use Rattle.std.specs.Prelude.{string_bytes}
use Rattle.toml.specs.Data.{Items, no_items, Members}
use Rattle.toml.specs.View.{items_view, members_view, view}
use Rattle.toml.proofs.Views.{Entry, items_view-drop}
use Rattle.tera_errors.specs.Prelude.{Fault}
use Rattle.tera_value_types.specs.Val.{Val, ktext}
use Rattle.tera_value_types.specs.Access.{insert_pair}
use Rattle.tera_data.specs.Toml.{OfItems, OfToml}
use Rattle.tera_data.proofs.Members.{placed}
use Rattle.tera_data.proofs.Tables.{once_each, ItemsBehind, MembersInto, items_more, items_none, items_refused, members_more, members_none, members_refused, says}
use Rattle.tera_data.proofs.toml_tables.+values.Goals as goal

pub items_of-returns-in-Err : goal.items_of-returns-in-Err
items_of-returns-in-Err t c =
    let l = c.loop-item in
    let f = c.args.floats in
    let xs = c.deref-item-items.result.now in
    let item = c.item-item.result in
    let step = rw (← c.item-item.is) at (items_view-drop xs l.item-index item c.loop-item-test.true) in
    let rest = items_view (drop (l.item-index + 1) xs) in
    let refused : (fault : Fault) → OfToml f (view item) (Err fault) → OfItems f (items_view xs) (Err fault) =
    λ fault h. l.invariant (Err fault) (subst (λ (ds : Items). ItemsBehind f l.all.items ds (Err fault)) (sym step) (items_refused f l.all.items (view item) rest fault h)) in
    rw (c.at_item.ensures, ← c.deref-item-items.ensures.value) (says c.in-Err.error _ _ refused c.in-Err.ensures)

pub items_of-loop-item-preserved : goal.items_of-loop-item-preserved
items_of-loop-item-preserved t c =
    let l = c.loop-item in
    let f = c.args.floats in
    let xs = c.deref-item-items.result.now in
    let item = c.item-item.result in
    let step = rw (← c.item-item.is) at (items_view-drop xs l.item-index item c.loop-item-test.true) in
    let rest = items_view (drop (l.item-index + 1) xs) in
    λ r h.
    let more = subst (λ (vs : List Val). ItemsBehind f vs rest r) c.in_ok-push-in-Ok.ensures.items h in
    l.invariant r (subst (λ (ds : Items). ItemsBehind f l.all.items ds r) (sym step) (items_more f l.all.items (view item) rest c.in-Ok.value c.in-Ok.ensures r more))

pub items_of-returns : goal.items_of-returns
items_of-returns t c =
    let l = c.loop-item in
    let f = c.args.floats in
    let xs = c.deref-item-items.result.now in
    let past : length xs ≤ l.item-index = omega arith in
    let none : items_view (drop l.item-index xs) ≡ no_items = ap items_view (drop_all l.item-index xs past) in
    rw (← c.deref-item-items.ensures.value) (l.invariant (Ok l.all.items) (subst (λ (ds : Items). ItemsBehind f l.all.items ds (Ok l.all.items)) (sym none) (items_none f l.all.items)))

pub map_of-returns-in_err-value : goal.map_of-returns-in_err-value
map_of-returns-in_err-value t c =
    let l = c.loop-name in
    let f = c.args.floats in
    let all : Members = members_view c.args.members.now.entries in
    let given : c.from_residual.result ≡ Err c.in_err-value.field-0.0 = search rules in
    let refused : (fault : Fault) → OfToml f (view c.in-Some.member.now) (Err fault) → MembersInto f (placed []) all (Err fault) =
    λ fault h. l.invariant.2 (Err fault) (subst (λ (es : List Entry). MembersInto f (placed l.all) (members_view es) (Err fault)) (sym c.in-Some.ensures.steps)
    (members_refused f (placed l.all) (string_bytes c.in-Some.name.now) (view c.in-Some.member.now) (members_view c.next.new.self) fault h)) in
    rw given (says c.in_err-value.field-0.0 _ _ (λ fault h. once_each f all (Err fault) (refused fault h)) c.in_err-value.ensures)

pub map_of-loop-name-preserved : goal.map_of-loop-name-preserved
map_of-loop-name-preserved t c =
    let l = c.loop-name in
    let f = c.args.floats in
    let name = string_bytes c.in-Some.name.now in
    let rest : Members = members_view c.next.new.self in
    let put : c.insert.new.self ≡ insert_pair l.all (ktext name) c.in_ok-value.value = search rules in (
      tt,
      tt,
      λ r h.
          let more = subst (λ es. MembersInto f (placed es) rest r) put h in
          l.invariant.2 r (subst (λ (es : List Entry). MembersInto f (placed l.all) (members_view es) r) (sym c.in-Some.ensures.steps)
          (members_more f (placed l.all) name (view c.in-Some.member.now) rest c.in_ok-value.value c.in_ok-value.ensures r more)),
    )

pub map_of-returns : goal.map_of-returns
map_of-returns t c =
    let l = c.loop-name in
    let f = c.args.floats in
    once_each f (members_view c.args.members.now.entries) (Ok l.all)
    (l.invariant.2 (Ok l.all) (subst (λ (es : List Entry). MembersInto f (placed l.all) (members_view es) (Ok l.all)) (sym c.in-None.ensures.steps.0) (members_none f (placed l.all))))
