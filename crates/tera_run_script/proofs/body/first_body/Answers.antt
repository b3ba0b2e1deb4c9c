use Rattle.std.proofs.Common.{rules, sym, ◌∙◌, lit<}
use Rattle.tera_run_script.proofs.Bodies.{passed_one, body_unended}
use Rattle.tera_run_script.proofs.body.first_body.Goals as goal

pub loop-line-preserved : goal.loop-line-preserved
loop-line-preserved c =
    let h = c.in-Some.ensures.byte (lit< tt) (λ w o f. f) in
    record {
      is_text = search rules;
      passed = passed_one c.args.text.now c.loop-line.after.now c.in-Some.line.now c.in-Some.rest.now c.loop-line.lines c.loop-line.invariant.passed h.0 h.1 h.2 (sym c.eq.ensures ∙ c.if-eq.false);
    }

pub returns : goal.returns
returns c =
    body_unended c.args.text.now c.loop-line.after.now c.loop-line.lines c.loop-line.invariant.passed
    (c.in_default.ensures.byte (lit< tt) (λ w o f. f)) (sym c.eq-2.ensures ∙ c.if-eq-2.false)
