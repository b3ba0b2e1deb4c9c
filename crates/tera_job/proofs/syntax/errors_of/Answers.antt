use Rattle.std.proofs.Common.{◌+◌, List, ap, sym, ◌∙◌, subst, take}
use Rattle.tera.specs.Answer.{SeenError}
use Rattle.tera.specs.Batch.{pairs_of}
use Rattle.tera.specs.Delimiters.{delimiters_of}
use Rattle.tera_job.specs.Unread.{AreUnread}
use Rattle.tera_job.proofs.Unread.{read_at, unread_at}
use Rattle.tera_job.proofs.syntax.errors_of.Goals.{in-Some+in_ok-push, in_default}
use Rattle.tera_job.proofs.syntax.errors_of.Goals as goal

pub loop-template-preserved : goal.loop-template-preserved
loop-template-preserved c =
    let l = c.loop-template in
    let xs = c.args.templates.now in
    let d = delimiters_of c.args.delimiters.now in
    let holds = λ (es : List SeenError). AreUnread d (take (l.template-index + 1) (pairs_of xs)) es in
    elim c.match-branch-2.branch [
      | in-Some+in_ok-push w ↦
          subst holds (sym (ap (λ errors. errors.items) w.errors-is ∙ w.in_ok-push.ensures.items))
          (unread_at d xs l.template-index _ l.errors.items w.in-Some.error c.loop-template-test.true l.invariant (rw w.in-Some.is at c.in_ok-error.ensures.ok))
      | in_default w ↦
          subst holds (sym (ap (λ errors. errors.items) w.errors-is))
          (read_at d xs l.template-index _ l.errors.items c.loop-template-test.true l.invariant (rw w.in_default.is at c.in_ok-error.ensures.ok))
    ]
