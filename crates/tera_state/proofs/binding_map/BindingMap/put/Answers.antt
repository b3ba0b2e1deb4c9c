use Rattle.std.proofs.Common.{rules, ◌≡◌, ◌∙◌, ap, sym, Some, arith, ◌+◌}
use Rattle.tera_state.specs.Bound.{with_binding, position_from}
use Rattle.tera_state.proofs.Puts.{at_position, bind-at, bind-new}
use Rattle.tera_state.proofs.BindingMap.{ordered-in_place}
use Rattle.tera_state.proofs.binding_map.BindingMap.put.Goals as goal

pub index_mut-requires : goal.index_mut-requires
index_mut-requires c =
    let f = c.args.binding.frame in
    let l = c.args.binding.layer in
    let n = c.args.binding.name in
    let h = ap (λ bs. position_from 0 bs f l n) c.self.view_is ∙ ap (λ m. position_from 0 c.args.self.now f l m) (sym c.as_name_ref.ensures) ∙ sym c.position.ensures ∙ c.in-Some.is in
    let x = at_position 0 c.self.inside.items.items f l n c.in-Some.at h in
    search (rules, x.1)

pub invariant_of-self : goal.invariant_of-self
invariant_of-self c =
    let items = c.self.inside.items.items in
    let f = c.args.binding.frame in
    let l = c.args.binding.layer in
    let n = c.args.binding.name in
    let h = ap (λ bs. position_from 0 bs f l n) c.self.view_is ∙ ap (λ m. position_from 0 c.args.self.now f l m) (sym c.as_name_ref.ensures) ∙ sym c.position.ensures ∙ c.in-Some.is in
    let m : c.in-Some.at ≡ 0 + c.in-Some.at = omega arith in
    λ t. ordered-in_place items _ f l n c.args.binding.value c.in-Some.at c.self.inside.places h
    (bind-at 0 c.in-Some.at items f l n c.args.binding.value c.index_mut.result.now (h ∙ ap Some m) c.index_mut.ensures.value)
    (c.self.invariant t)

pub returns-in-Some-clause-ok : goal.returns-in-Some-clause-ok
returns-in-Some-clause-ok c =
    let items = c.self.inside.items.items in
    let f = c.args.binding.frame in
    let l = c.args.binding.layer in
    let n = c.args.binding.name in
    let h = ap (λ bs. position_from 0 bs f l n) c.self.view_is ∙ ap (λ m. position_from 0 c.args.self.now f l m) (sym c.as_name_ref.ensures) ∙ sym c.position.ensures ∙ c.in-Some.is in
    let m : c.in-Some.at ≡ 0 + c.in-Some.at = omega arith in
    bind-at 0 c.in-Some.at items f l n c.args.binding.value c.index_mut.result.now (h ∙ ap Some m) c.index_mut.ensures.value
    ∙ ap (λ bs. with_binding bs f l n c.args.binding.value) c.self.view_is

pub returns-in_ok-push-in-None-clause-ok : goal.returns-in_ok-push-in-None-clause-ok
returns-in_ok-push-in-None-clause-ok c =
    let f = c.args.binding.frame in
    let l = c.args.binding.layer in
    let n = c.args.binding.name in
    let none = ap (λ m. position_from 0 c.args.self.now f l m) (sym c.as_name_ref.ensures) ∙ sym c.position.ensures ∙ c.in-None.is in
    c.in_ok-push-in-None.ensures.ok ∙ bind-new 0 c.args.self.now f l n c.args.binding.value none
