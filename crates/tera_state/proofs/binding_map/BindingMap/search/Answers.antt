use Rattle.std.proofs.Common.{rules, ◌≡◌, ◌∙◌, ap, sym, Some, arith, ◌+◌}
use Rattle.tera_state.specs.Bound.{value_in, position_from}
use Rattle.tera_state.proofs.Puts.{at_position}
use Rattle.tera_state.proofs.BindingMap.{value-at, no-value}
use Rattle.tera_state.proofs.binding_map.BindingMap.search.Goals as goal

pub index-requires : goal.index-requires
index-requires c =
    let f = c.args.frame in
    let l = c.args.layer in
    let n = c.args.name.now in
    let h = ap (λ bs. position_from 0 bs f l n) c.self.view_is ∙ sym c.position.ensures ∙ c.in-Some.is in
    let x = at_position 0 c.self.inside.items.items f l n c.in-Some.at h in
    search (rules, x.1)

pub returns-in-Some : goal.returns-in-Some
returns-in-Some c =
    let f = c.args.frame in
    let l = c.args.layer in
    let n = c.args.name.now in
    let h = ap (λ bs. position_from 0 bs f l n) c.self.view_is ∙ sym c.position.ensures ∙ c.in-Some.is in
    let m : c.in-Some.at ≡ 0 + c.in-Some.at = omega arith in
    value-at 0 c.in-Some.at c.self.inside.items.items f l n c.index.result.now (h ∙ ap Some m) c.index.ensures
    ∙ ap (λ bs. value_in bs f l n) c.self.view_is

pub returns-in-None : goal.returns-in-None
returns-in-None c = no-value 0 c.args.self.now c.args.frame c.args.layer c.args.name.now (sym c.position.ensures ∙ c.in-None.is)
