use Rattle.std.proofs.Common.{◌≡◌, ◌∙◌, ◌++◌, sym, subst}
use Rattle.tera_state.specs.Bound.{without}
use Rattle.tera_state.proofs.Ends.{without_after}
use Rattle.tera_state.proofs.bindings.Bindings.clear.Goals as goal

pub returns-then-is_beyond : goal.returns-then-is_beyond
returns-then-is_beyond c =
    sym (subst (λ bs. without bs c.args.frame c.args.layer ≡ bs) c.self.view_is
    (without_after (c.self.inside.few.items ++ c.self.inside.others) c.args.frame c.args.layer c.self.inside.end.frame c.self.inside.end.layer c.self.invariant (sym c.is_beyond.ensures ∙ c.if-is_beyond.true)))
