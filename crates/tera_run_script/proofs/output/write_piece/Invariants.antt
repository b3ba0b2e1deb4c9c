use Rattle.std.proofs.Common.{length}
use Rattle.tera_run_script.specs.Device.{ToDevice}
use Rattle.tera_run_script.proofs.Passages.{Along}
use Rattle.tera_run_script.proofs.output.write_piece.Given as goal

abbrev pub invariant-loop-rest : goal.invariant-loop-rest
invariant-loop-rest g l = record {
  along : Along (g.W.Output.passed l.initial.writer) (g.W.Output.passed l.writer) l.piece l.rest;
  device : ToDevice g.W.Output.passed g.W.Output.contents l.initial.writer l.writer;
}

abbrev pub decreases-loop-rest : goal.decreases-loop-rest
decreases-loop-rest g l = length l.rest
