use Rattle.std.proofs.Common.{◌-◌, ◌<◌, ◌∙◌, refl, sym, ap, arith}
use Rattle.tera_state.specs.Stack.{lower}
use Rattle.tera_state.specs.Scopes.{context_of}
use Rattle.tera_state.specs.declared.frame.FrameKind.TheVariants as standing
use Rattle.tera_state.proofs.Finds.{lower_at, included_context}
use Rattle.tera_state.proofs.scopes.Scopes.context_at.Goals as goal

pub returns-in-Some-own_context : goal.returns-in-Some-own_context
returns-in-Some-own_context c =
    let fs = c.args.self.now.below in
    let k = c.down.left in
    let f = c.at_height.result.now in
    let some : 0 < k = omega (arith, c.down-test.true) in
    c.in-Some-own_context.ensures (lower (k - 1) fs)
    ∙ sym (included_context standing.Include f (lower (k - 1) fs) (lower k fs) refl (lower_at fs k f some c.at_height.ensures))
    ∙ sym c.down.invariant.same

pub down-preserved : goal.down-preserved
down-preserved c =
    let fs = c.args.self.now.below in
    let k = c.down.left in
    let f = c.at_height.result.now in
    let some : 0 < k = omega (arith, c.down-test.true) in
    record {
      within = omega (arith, c.down.invariant.within);
      same = c.down.invariant.same
          ∙ included_context standing.Include f (lower (k - 1) fs) (lower k fs) refl (lower_at fs k f some c.at_height.ensures)
          ∙ ap (λ s. context_of s (lower (k - 1) fs)) c.in_default-own_context.ensures;
    }
