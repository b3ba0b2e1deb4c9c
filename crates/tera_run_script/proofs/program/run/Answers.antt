use Rattle.std.proofs.Common.{None, Some, subst}
use Rattle.tera.specs.Registry.{registry_of}
use Rattle.tera_run_script.specs.Device.{HasEnded}
use Rattle.tera_run_script.specs.Passage.{PassesAll, PassesPart}
use Rattle.tera_run_script.specs.Run.{at_write}
use Rattle.tera_run_script.proofs.Programs.{replied, finishes, breaks_off, output_of}
use Rattle.tera_run_script.proofs.program.run.Goals as goal

pub returns-in-None-clause-ran : goal.returns-in-None-clause-ran
returns-in-None-clause-ran g c =
    finishes (registry_of g.O.Objects.engine c.args.engine.now) (registry_of g.O.Objects.engine c.run_commands.new.engine) (g.R.Input.passed c.args.reader.now) (g.R.Input.passed c.read_all.new.reader) (HasEnded g.R.Input.ended g.R.Input.remaining c.read_all.new.reader) (g.W.Output.passed c.args.writer.now) (g.W.Output.passed c.write_replies.new.writer)
    (g.W.Output.settled c.write_replies.new.writer) None c.in-Ok.bytes.items c.in-Ok-script_of.script c.in-Ok-run_commands.replies.items c.in-Ok.ensures.read
    (replied (registry_of g.O.Objects.engine c.args.engine.now) (registry_of g.O.Objects.engine c.run_commands.new.engine) c.in-Ok.bytes.items c.as_slice.result.now c.in-Ok-script_of.script c.as_slice-2.result.now c.in-Ok-run_commands.replies.items
    c.as_slice.ensures.value c.in-Ok-script_of.ensures c.as_slice-2.ensures.value c.in-Ok-run_commands.ensures.replies)
    (subst (λ replies. PassesAll (g.W.Output.passed c.args.writer.now) (g.W.Output.passed c.write_replies.new.writer) (output_of replies)) c.as_slice-3.ensures.value c.in-Ok-write_replies.ensures.written.put)
    c.in-Ok-write_replies.ensures.settled
    c.in-None.is

pub returns-in-Ok-write_replies-clause-ran : goal.returns-in-Ok-write_replies-clause-ran
returns-in-Ok-write_replies-clause-ran g c =
    finishes (registry_of g.O.Objects.engine c.args.engine.now) (registry_of g.O.Objects.engine c.run_commands.new.engine) (g.R.Input.passed c.args.reader.now) (g.R.Input.passed c.read_all.new.reader) (HasEnded g.R.Input.ended g.R.Input.remaining c.read_all.new.reader) (g.W.Output.passed c.args.writer.now) (g.W.Output.passed c.write_replies.new.writer)
    (g.W.Output.settled c.write_replies.new.writer) (Some c.in-Some.line) c.in-Ok.bytes.items c.in-Ok-script_of.script c.in-Ok-run_commands.replies.items c.in-Ok.ensures.read
    (replied (registry_of g.O.Objects.engine c.args.engine.now) (registry_of g.O.Objects.engine c.run_commands.new.engine) c.in-Ok.bytes.items c.as_slice.result.now c.in-Ok-script_of.script c.as_slice-2.result.now c.in-Ok-run_commands.replies.items
    c.as_slice.ensures.value c.in-Ok-script_of.ensures c.as_slice-2.ensures.value c.in-Ok-run_commands.ensures.replies)
    (subst (λ replies. PassesAll (g.W.Output.passed c.args.writer.now) (g.W.Output.passed c.write_replies.new.writer) (output_of replies)) c.as_slice-3.ensures.value c.in-Ok-write_replies.ensures.written.put)
    c.in-Ok-write_replies.ensures.settled
    c.in-Some.is

pub returns-clause-ran : goal.returns-clause-ran
returns-clause-ran g c =
    at_write (breaks_off (registry_of g.O.Objects.engine c.args.engine.now) (registry_of g.O.Objects.engine c.run_commands.new.engine) (g.R.Input.passed c.args.reader.now) (g.R.Input.passed c.read_all.new.reader) (HasEnded g.R.Input.ended g.R.Input.remaining c.read_all.new.reader) (g.W.Output.passed c.args.writer.now) (g.W.Output.passed c.write_replies.new.writer)
    c.in-Ok.bytes.items c.in-Ok-script_of.script c.in-Ok-run_commands.replies.items c.in-Ok.ensures.read
    (replied (registry_of g.O.Objects.engine c.args.engine.now) (registry_of g.O.Objects.engine c.run_commands.new.engine) c.in-Ok.bytes.items c.as_slice.result.now c.in-Ok-script_of.script c.as_slice-2.result.now c.in-Ok-run_commands.replies.items
    c.as_slice.ensures.value c.in-Ok-script_of.ensures c.as_slice-2.ensures.value c.in-Ok-run_commands.ensures.replies)
    (subst (λ replies. PassesPart (g.W.Output.passed c.args.writer.now) (g.W.Output.passed c.write_replies.new.writer) (output_of replies)) c.as_slice-3.ensures.value c.in-Err-write_replies.ensures.written.put))
