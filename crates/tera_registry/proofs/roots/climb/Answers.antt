use Rattle.std.proofs.Common.{◌≡◌, ◌-◌, ◌+◌, suc, length, Some, None, sym, ap, ◌∙◌, arith}
use Rattle.std.proofs.lemmas.Option.{slice_get-get_or}
use Rattle.tera_registry.proofs.Element.{element}
use Rattle.tera_registry.proofs.Climb.{climb-begins, climb-ends, climb-misses, climb-on, climb-again, climb-meets}
use Rattle.tera_registry.proofs.Linked.{up-there, next-inside}
use Rattle.tera_registry.proofs.roots.climb.Goals as goal

pub loop-step-init : goal.loop-step-init
loop-step-init c = record {
  last_there = c.requires.there;
  climbed = λ r t u a at u_at.
      (let same : t ≡ u = (let q : Some t ≡ Some u = sym at ∙ u_at in cc) in
      rw (← same) (climb-begins r t (length c.args.ups.now - 0) (omega (arith, a.as_many))));
}

pub returns-in-None : goal.returns-in-None
returns-in-None c = λ r t a known at.
    let i = c.loop-step.invariant in
    let e = up-there r c.args.ups.now c.loop-step.last _ a i.last_there c.in-None.is in
    climb-ends r t e.0 _ _ c.loop-step.last (i.climbed r t e.0 a at e.1) (omega (arith, a.as_many, c.loop-step-test.true)) e.2 e.1

pub returns-in-Missing : goal.returns-in-Missing
returns-in-Missing c = λ r t a known at.
    let i = c.loop-step.invariant in
    let e = up-there r c.args.ups.now c.loop-step.last _ a i.last_there c.in-Missing.is in
    rw c.missing_parent.ensures (climb-misses r t e.0 _ _ e.2.0 (i.climbed r t e.0 a at e.1) (omega (arith, c.loop-step-test.true)) e.2.1 e.2.2)

pub loop-step-preserved : goal.loop-step-preserved
loop-step-preserved c =
    let i = c.loop-step.invariant in
    record {
      last_there = next-inside c.args.ups.now c.loop-step.last c.in-At.next c.requires.inside i.last_there c.in-At.is;
      climbed = λ r t v a at v_at.
          (let e = up-there r c.args.ups.now c.loop-step.last _ a i.last_there c.in-At.is in
          let left : length c.args.ups.now - c.loop-step.step ≡ suc (length c.args.ups.now - (c.loop-step.step + 1)) = omega (arith, c.loop-step-test.true) in
          climb-on r t e.0 v _ _ _ e.2.0 (i.climbed r t e.0 a at e.1) left e.2.1 (e.2.2.0 ∙ v_at));
    }

pub returns-in-None-ups : goal.returns-in-None-ups
returns-in-None-ups c = λ r t a known at.
    let i = c.loop-step.invariant in
    let e = up-there r c.args.ups.now c.loop-step.last _ a i.last_there c.in-None-ups.is in
    let all : length c.args.ups.now ≡ c.loop-step.step = omega (arith, c.loop-step-test.false, c.loop-step.auto.step-end) in
    rw all (climb-ends r t e.0 _ _ c.loop-step.last (i.climbed r t e.0 a at e.1) (omega (arith, a.as_many, all)) e.2 e.1)

pub returns-in-Missing-ups : goal.returns-in-Missing-ups
returns-in-Missing-ups c = λ r t a known at.
    let i = c.loop-step.invariant in
    let e = up-there r c.args.ups.now c.loop-step.last _ a i.last_there c.in-Missing-ups.is in
    rw c.circular_extend.ensures (climb-again r t e.0 _ _ e.2.0 (i.climbed r t e.0 a at e.1) (omega (arith, c.loop-step-test.false)) e.2.1)

pub returns-in-At-ups : goal.returns-in-At-ups
returns-in-At-ups c = λ r t a known at.
    let i = c.loop-step.invariant in
    let e = up-there r c.args.ups.now c.loop-step.last _ a i.last_there c.in-At-ups.is in
    rw c.circular_extend-in-At-ups.ensures (climb-again r t e.0 _ _ e.2.0 (i.climbed r t e.0 a at e.1) (omega (arith, c.loop-step-test.false)) e.2.1)

pub returns-in-Some : goal.returns-in-Some
returns-in-Some c = λ r t a known at.
    let i = c.loop-step.invariant in
    let got = slice_get-get_or c.args.tops.now c.loop-step.last None (omega (arith, i.last_there, c.requires.as_many)) ∙ ap Some c.in-Some.is in
    let e = element r.templates c.loop-step.last (omega (arith, i.last_there, a.as_many)) in
    climb-meets r t e.0 c.loop-step.step _ (length c.args.ups.now) c.in-Some.top c.root_from_below.result (i.climbed r t e.0 a at e.1) a.as_many (omega (arith, c.loop-step-test.true)) (known.those c.loop-step.last c.in-Some.top e.0 got e.1) c.root_from_below.ensures
