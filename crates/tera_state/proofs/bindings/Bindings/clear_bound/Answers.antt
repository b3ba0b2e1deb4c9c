use Rattle.std.proofs.Common.{◌≡◌, ◌++◌, rules, ◌∙◌, ap, not, ◌||◌, nat_eq}
use Rattle.std.proofs.lemmas.Fn.{filter_same}
use Rattle.tera_state.specs.Bound.{without, end_without}
use Rattle.tera_state.proofs.Parts.{without-parts}
use Rattle.tera_state.proofs.Ends.{ends-without, ends_of}
use Rattle.tera_state.proofs.bindings.Bindings.clear_bound.Goals as goal

pub invariant_of-self : goal.invariant_of-self
invariant_of-self c =
    let few = c.self.inside.few.items in
    let others = c.self.inside.others in
    let f = c.args.frame in
    let l = c.args.layer in
    let end = c.self.inside.end in
    let fewer : c.retain.new.self.items ≡ without few f l = filter_same _ (λ b. not (nat_eq b.frame f) || not (nat_eq b.layer l)) _ (λ x b f' k. search rules) _ _ c.retain.ensures.filtered in
    ends_of (c.retain.new.self.items ++ c.clear_layer.new.self) (without (few ++ others) f l) c.end_without-self-inside.result (end_without f l end)
    (without-parts few c.retain.new.self.items others c.clear_layer.new.self f l fewer c.clear_layer.ensures)
    c.end_without-self-inside.ensures
    (ends-without (few ++ others) f l end c.self.invariant)

pub returns : goal.returns
returns c =
    let few = c.self.inside.few.items in
    let others = c.self.inside.others in
    let f = c.args.frame in
    let l = c.args.layer in
    let fewer : c.retain.new.self.items ≡ without few f l = filter_same _ (λ b. not (nat_eq b.frame f) || not (nat_eq b.layer l)) _ (λ x b f' k. search rules) _ _ c.retain.ensures.filtered in
    without-parts few c.retain.new.self.items others c.clear_layer.new.self f l fewer c.clear_layer.ensures ∙ ap (λ bs. without bs f l) c.self.view_is
