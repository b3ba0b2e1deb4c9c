use Rattle.std.proofs.Common.{take}
use Rattle.std.specs.List.{flat_map}
use Rattle.tera_run_script.specs.Device.{ToDevice}
use Rattle.tera_run_script.specs.Passage.{PassesAll}
use Rattle.tera_run_script.specs.Reply.{line_of, reply_seen}
use Rattle.tera_run_script.proofs.program.write_replies.Given as goal

abbrev pub invariant-loop-reply : goal.invariant-loop-reply
invariant-loop-reply g l = record {
  put : PassesAll (g.W.Output.passed l.initial.writer) (g.W.Output.passed l.writer) (flat_map (λ reply. line_of (reply_seen reply)) (take l.reply-index l.replies));
  device : ToDevice g.W.Output.passed g.W.Output.contents l.initial.writer l.writer;
}
