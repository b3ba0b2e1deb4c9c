use Rattle.std.proofs.Common.{◌≡◌, ◌∙◌, ◌++◌, sym, subst, None}
use Rattle.tera_state.specs.Bound.{value_in}
use Rattle.tera_state.proofs.Ends.{nothing_after}
use Rattle.tera_state.proofs.bindings.Bindings.value_of.Goals as goal

pub returns-then-is_beyond : goal.returns-then-is_beyond
returns-then-is_beyond c =
    sym (subst (λ bs. value_in bs c.args.frame c.args.layer c.args.name.now ≡ None) c.self.view_is
    (nothing_after (c.self.inside.few.items ++ c.self.inside.others) c.args.frame c.args.layer c.self.inside.end.frame c.self.inside.end.layer c.args.name.now c.self.invariant (sym c.is_beyond.ensures ∙ c.if-is_beyond.true)))
