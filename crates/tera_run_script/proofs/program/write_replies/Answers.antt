use Rattle.std.proofs.Common.{subst}
use Rattle.tera_run_script.specs.Passage.{PassesPart}
use Rattle.tera_run_script.specs.Reply.{line_of, reply_seen}
use Rattle.tera_run_script.proofs.Devices.{taking, through_then}
use Rattle.tera_run_script.proofs.Passages.{parts_fail}
use Rattle.tera_run_script.proofs.program.write_replies.Goals as goal

pub returns-in-Err-clause-written : goal.returns-in-Err-clause-written
returns-in-Err-clause-written g c =
    let passed = g.W.Output.passed in
    let mid = passed c.loop-reply.writer in
    let new = passed c.write_reply.new.writer in
    record {
      put = parts_fail (λ reply. line_of (reply_seen reply)) (passed c.args.writer.now) mid new
          c.args.replies.now c.loop-reply.reply-index c.reply-item.result c.loop-reply.invariant.put c.loop-reply-test.true
          (subst (λ reply. PassesPart mid new (line_of (reply_seen reply))) c.reply-item.is c.in-Err.ensures.put);
      device = through_then _ taking passed g.W.Output.contents c.args.writer.now c.loop-reply.writer c.write_reply.new.writer c.loop-reply.invariant.device c.in-Err.ensures.device;
    }
