use Rattle.std.proofs.Common.{take}
use Rattle.std.specs.List.{flat_map}
use Rattle.tera_run_script.specs.Device.{ToDevice}
use Rattle.tera_run_script.specs.Passage.{PassesAll}
use Rattle.tera_run_script.proofs.output.write_pieces.Given as goal

abbrev pub invariant-loop-piece : goal.invariant-loop-piece
invariant-loop-piece g l = record {
  put : PassesAll (g.W.Output.passed l.initial.writer) (g.W.Output.passed l.writer) (flat_map (λ piece. piece.now) (take l.piece-index l.pieces));
  device : ToDevice g.W.Output.passed g.W.Output.contents l.initial.writer l.writer;
}
