use Rattle.std.proofs.Common.{◌≡◌, ◌<◌, ◌++◌, rules, ◌∙◌, ap, sym, subst, refl, not, nat_eq}
use Rattle.std.proofs.lemmas.Fn.{filter_same}
use Rattle.std.proofs.lemmas.List.Elements.{filter-append}
use Rattle.tera_state.specs.Bound.{without_frame}
use Rattle.tera_state.proofs.Parts.{both_parts}
use Rattle.tera_state.proofs.Ends.{without_frame_after, ends-filter, ends_of}
use Rattle.tera_state.proofs.bindings.Bindings.clear_frame.Goals as goal

pub returns-then-frame-self : goal.returns-then-frame-self
returns-then-frame-self c =
    let later : c.self.inside.end.frame < c.args.frame = search rules in
    sym (subst (λ bs. without_frame bs c.args.frame ≡ bs) c.self.view_is
    (without_frame_after (c.self.inside.few.items ++ c.self.inside.others) c.args.frame c.self.inside.end.frame c.self.inside.end.layer c.self.invariant later))

made : (c : goal.After-clear) → c.retain.new.self.items ++ c.clear.new.self ≡ without_frame (c.self.inside.few.items ++ c.self.inside.others) c.args.frame
made c =
    let few = c.self.inside.few.items in
    let others = c.self.inside.others in
    both_parts c.retain.new.self.items (without_frame few c.args.frame) c.clear.new.self (without_frame others c.args.frame)
    (filter_same _ (λ b. not (nat_eq b.frame c.args.frame)) _ (λ x b f' k. search rules) _ _ c.retain.ensures.filtered)
    c.clear.ensures
    ∙ sym (filter-append (λ b. not (nat_eq b.frame c.args.frame)) few others)

pub invariant_of-self : goal.invariant_of-self
invariant_of-self c =
    let items = c.self.inside.few.items ++ c.self.inside.others in
    let end = c.self.inside.end in
    ends_of (c.retain.new.self.items ++ c.clear.new.self) (without_frame items c.args.frame) end end (made c) refl
    (ends-filter (λ b. not (nat_eq b.frame c.args.frame)) items end.frame end.layer c.self.invariant)

pub returns : goal.returns
returns c = made c ∙ ap (λ bs. without_frame bs c.args.frame) c.self.view_is
