use Rattle.std.proofs.Common.{◌++◌, ◌∷◌, [], length, sym, ap, ◌∙◌, append_assoc, arith}
use Rattle.tera_calls.proofs.Accepting.{made_accepted}
use Rattle.tera_calls.proofs.InARow.{Made-more}
use Rattle.tera_calls.proofs.call.make_calls.Goals as goal

pub loop-call-preserved : goal.loop-call-preserved
loop-call-preserved g c =
    let done = c.loop-call.yielded in
    let call = c.in-Some.call in
    record {
      whole = append_assoc done (call ∷ []) _ ∙ ap (λ l. done ++ l) (sym c.in-Some.ensures.steps.0) ∙ c.loop-call.invariant.whole;
      size = omega (arith, c.in-Some.ensures.steps.1, ap length c.in-Some.ensures.steps.0, c.loop-call.invariant.size);
      made = Made-more _ _ _ _ _ _ _ _ _ c.loop-call.invariant.made c.push_reserved.ensures.items c.make_call-answer.ensures;
      room = omega (arith, c.push_reserved.ensures.len, c.push_reserved.ensures.capacity, c.in-Some.ensures.steps.1, c.loop-call.invariant.room);
    }

pub returns-clause-accepted : goal.returns-clause-accepted
returns-clause-accepted g c = made_accepted c.loop-call.invariant.made
