use Rattle.std.proofs.Common.{◌+◌, ap, sym, take, subst}
use Rattle.tera_job.specs.Data.{AreReadable}
use Rattle.tera_job.proofs.Laying.{laid_more, lays_next, lays_error}
use Rattle.tera_job.proofs.datum.context_of.Goals as goal

pub returns-in-Err-clause-err : goal.returns-in-Err-clause-err
returns-in-Err-clause-err c =
    let l = c.loop-datum in (
      subst (λ i. AreReadable c.args.floats (take i c.args.given.now)) (sym l.invariant.at) (l.context, l.invariant.laid),
      lays_error c.args.floats c.args.given.now l.datum-index _ l.context c.in-Err.error c.loop-datum-test.true l.invariant.rest c.in-Err.ensures,
    )

pub loop-datum-preserved : goal.loop-datum-preserved
loop-datum-preserved c =
    let l = c.loop-datum in
    record {
      laid = laid_more c.args.floats c.args.given.now l.datum-index _ l.context c.lay.new.context c.loop-datum-test.true l.invariant.laid c.in_default.ensures;
      rest = λ r h. l.invariant.rest r (lays_next c.args.floats c.args.given.now l.datum-index _ l.context c.lay.new.context r c.loop-datum-test.true c.in_default.ensures h);
      at = ap (λ i. i + 1) l.invariant.at;
    }
