use Rattle.std.proofs.Common.{arith, subst}
use Rattle.tera.specs.Registry.{registry_of}
use Rattle.tera_run_script.specs.Act.{act_of}
use Rattle.tera_run_script.specs.Reply.{reply_seen}
use Rattle.tera_run_script.specs.Seen.{session_of}
use Rattle.tera_run_script.specs.Session.{Answers}
use Rattle.tera_run_script.proofs.Sessions.{answered_more}
use Rattle.tera_run_script.proofs.execute.run_commands.Goals as goal

pub loop-command-preserved : goal.loop-command-preserved
loop-command-preserved g c =
    let left = session_of (registry_of g.O.Objects.engine c.loop-command.engine) c.loop-command.session in
    let next = session_of (registry_of g.O.Objects.engine c.reply_to-reply.new.engine) c.reply_to-reply.new.session in
    record {
      answered =
          answered_more (registry_of g.O.Objects.engine c.args.engine.now) c.args.commands.now c.loop-command.command-index c.command-item.result c.loop-command.replies.items c.push_reserved.new.self.items c.reply_to-reply.result left next
          c.loop-command.invariant.answered c.loop-command-test.true c.push_reserved.ensures.items
          (subst (λ command. Answers left (act_of command) (reply_seen c.reply_to-reply.result) next) c.command-item.is c.reply_to-reply.ensures);
      counted = omega (arith, c.push_reserved.ensures.len, c.loop-command.invariant.counted);
      room = omega (arith, c.push_reserved.ensures.capacity, c.loop-command.invariant.room);
    }
