use Rattle.std.proofs.Common.{rules, ◌≡◌, List, ap, sym, ◌∙◌}
use Rattle.std.proofs.lemmas.Fn.{filter_same}
use Rattle.tera_state.specs.declared.bindings.Binding.{Binding}
use Rattle.tera_state.specs.BindingMap.{is_outside, outside, last_layer, ends_in, ends_before}
use Rattle.tera_state.proofs.BindingMap.{popped}
use Rattle.tera_state.proofs.Rising.{outside-before}
use Rattle.tera_state.proofs.binding_map.BindingMap.clear_bound.Goals as goal
use Rattle.tera_state.proofs.binding_map.BindingMap.clear_bound.Goals.{then-not-ends_before, else-not-ends_before, then-is_empty, else-is_empty}

pub loop-self-preserved : goal.loop-self-preserved
loop-self-preserved c =
    let part = c.args.part in
    popped part c.pop-last.result c.loop-self.self c.pop-last.new.self c.pop-last.ensures.items
    (ap (λ (bs : List Binding). ends_in part (last_layer bs)) (sym (c.as_slice.ensures.value ∙ c.self.view_is)) ∙ sym c.ends_in.ensures ∙ c.loop-self-test.true)
    ∙ c.loop-self.invariant

pub returns : goal.returns
returns c =
    let part = c.args.part in
    let items = c.self-2.inside.items.items in
    let is_ordered = c.self-2.inside.is_ordered in
    let whole : outside part items ≡ outside part c.args.self.now = ap (outside part) c.self-2.view_is ∙ c.loop-self.invariant in
    let kept : c.if-not-ends_before.self-inside.items.items ≡ outside part c.args.self.now =
    elim c.if-not-ends_before.branch [
      | then-not-ends_before w ↦
          ap (λ m. m.items.items) w.self-inside-is
          ∙ filter_same _ (λ (b : Binding). is_outside part b.frame b.layer) _ (λ x b f k. search rules) _ _ w.retain.ensures.filtered
          ∙ whole
      | else-not-ends_before w ↦
          ap (λ m. m.items.items) w.self-inside-is
          ∙ sym (outside-before is_ordered part items
          (ap (λ (bs : List Binding). ends_before is_ordered part (last_layer bs)) (sym c.as_slice-2.ensures.value) ∙ sym c.ends_before.ensures ∙ w.if-not-ends_before.false)
          (λ t. (c.self-2.invariant t).0))
          ∙ whole
    ] in
    elim c.if-is_empty.branch [
      | then-is_empty w ↦ ap (λ m. m.items.items) w.self-inside-is ∙ kept
      | else-is_empty w ↦ ap (λ m. m.items.items) w.self-inside-is ∙ kept
    ]
