use Rattle.std.proofs.Common.{◌≡◌, List, [], ◌∷◌, ◌++◌, ◌<◌, length, take, get_or, ap, sym, ◌∙◌, rules, arith}
use Rattle.std.proofs.lemmas.List.{take_more, get_or-map}
use Rattle.tera_value_types.specs.Val.{Val, KeyVal, array, vals}
use Rattle.tera_value_types.specs.View.{entry_view, entry_views, key_view}
use Rattle.tera_value_types.specs.declared.value.Entry.{Entry}
use Rattle.tera_value_types.proofs.Sizes.{array_deeper}
use Rattle.tera_value_types.proofs.Entries.{push_views, views_length}
use Rattle.tera_value_types.proofs.+copying.Goals as goal

pub value::Value::try_clone-copy_items-requires : goal.value::Value::try_clone-copy_items-requires
value::Value::try_clone-copy_items-requires t c =
    let whole : array (vals c.as_slice.result.now) ≡ c.args.self.now = ap (λ vs. array (vals vs)) c.as_slice.ensures.value ∙ cc (c.in-Array.is, c.self.view_is) in
    (omega (arith, array_deeper c.as_slice.result.now c.args.self.now whole, c.decreases), tt)

pub copy::copy_entries-loop-item-preserved : goal.copy::copy_entries-loop-item-preserved
copy::copy_entries-loop-item-preserved t c =
    let all = c.args.all.now in
    let i = c.loop-item.item-index in
    let x = c.item-item.result in
    let h : i < length all = search rules in
    let h2 : i < length (entry_views all) = omega (arith, h, views_length all) in
    let e : Entry = record { key = c.in_ok-key.key; value = c.in_ok-value.value } in
    let key : key_view x.key ≡ key_view c.in_ok-key.key = cc (c.in_ok-key.ensures.key) in
    let value : x.value ≡ c.in_ok-value.value = cc (c.in_ok-value.ensures.value) in
    let pair : entry_view x ≡ entry_view e = λ j. (key j, value j) in
    let at : get_or (entry_views all) i (entry_view x) ≡ entry_view x = get_or-map entry_view all i x (entry_view x) h ∙ ap entry_view (sym c.item-item.is) in
    let more : c.push.new.self.items ≡ c.loop-item.copies.items ++ e ∷ [] = c.in_ok-push.ensures.items in
    ap entry_views more ∙ push_views c.loop-item.copies.items e ∙ ap (λ (l : List (KeyVal × Val)). l ++ entry_view e ∷ []) c.loop-item.invariant ∙ ap (λ (p : KeyVal × Val). take i (entry_views all) ++ p ∷ []) (sym pair ∙ sym at) ∙ sym (take_more (entry_views all) i (entry_view x) h2)
