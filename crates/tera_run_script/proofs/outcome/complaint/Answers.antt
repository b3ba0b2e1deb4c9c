use Rattle.std.proofs.Common.{◌++◌, codes, ap, ◌∙◌}
use Rattle.tera_run_script.proofs.Programs.{complained}
use Rattle.tera_run_script.proofs.outcome.complaint.Goals as goal

pub returns-in-Unreadable-clause-complains : goal.returns-in-Unreadable-clause-complains
returns-in-Unreadable-clause-complains g c =
    rw c.in-Unreadable.is (complained (g.W.Output.passed c.args.writer.now) (g.W.Output.passed c.write_and_flush.new.writer) (g.W.Output.settled c.write_and_flush.new.writer) c.in-Unreadable.line
    (codes "unreadable command at line " ++ c.as_bytes.result.now ++ codes "\n") c.write_and_flush.result
    (ap (λ number. codes "unreadable command at line " ++ number ++ codes "\n") (c.as_bytes.ensures.value ∙ c.format.ensures.text)) c.write_and_flush.ensures.written.put c.write_and_flush.ensures.settled)
