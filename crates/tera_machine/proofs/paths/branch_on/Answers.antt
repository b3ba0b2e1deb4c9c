use Rattle.std.proofs.Common.{ap, refl, sym, ◌∙◌}
use Rattle.tera_machine.specs.Effect.{branched}
use Rattle.tera_machine.proofs.Reaching.{counted_so, found_there, more, more_did}
use Rattle.tera_machine.proofs.paths.branch_on.Goals as goal

pub returns-then-is_truthy-clause-goes : goal.returns-then-is_truthy-clause-goes
returns-then-is_truthy-clause-goes g c = λ s c' r.
    more_did r (found_there r.stands.continues _ c.in_ok-skip.ensures.means) refl (counted_so c.in_ok-skip.ensures.count) ∙ ap (λ b. branched b c' c.in_ok-skip.skip c') (sym c.is_truthy.ensures ∙ c.if-is_truthy.true)

pub returns-else-is_truthy-clause-goes : goal.returns-else-is_truthy-clause-goes
returns-else-is_truthy-clause-goes g c = λ s c' r.
    more_did r (found_there r.stands.continues _ c.in_ok-skip.ensures.means) refl (counted_so c.in_ok-skip.ensures.count) ∙ ap (λ b. branched b c' c.in_ok-skip.skip c') (sym c.is_truthy.ensures ∙ c.if-is_truthy.false)

pub returns-then-is_truthy-clause-stands : goal.returns-then-is_truthy-clause-stands
returns-then-is_truthy-clause-stands g c = λ s c' r. more r (found_there r.stands.continues _ c.in_ok-skip.ensures.means) refl (counted_so c.in_ok-skip.ensures.count)

pub returns-else-is_truthy-clause-stands : goal.returns-else-is_truthy-clause-stands
returns-else-is_truthy-clause-stands g c = λ s c' r. more r (found_there r.stands.continues _ c.in_ok-skip.ensures.means) refl (counted_so c.in_ok-skip.ensures.count)
