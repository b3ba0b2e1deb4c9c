use Rattle.tera_run_script.proofs.Devices.{taking, through_then}
use Rattle.tera_run_script.proofs.Passages.{parts_fail}
use Rattle.tera_run_script.proofs.output.write_pieces.Goals as goal

pub returns-in-Err : goal.returns-in-Err
returns-in-Err g c =
    let passed = g.W.Output.passed in
    record {
      put = parts_fail (λ piece. piece.now) (passed c.args.writer.now) (passed c.loop-piece.writer) (passed c.write_piece.new.writer)
          c.args.pieces.now c.loop-piece.piece-index _ c.loop-piece.invariant.put c.loop-piece-test.true c.in-Err.ensures.put;
      device = through_then _ taking passed g.W.Output.contents c.args.writer.now c.loop-piece.writer c.write_piece.new.writer c.loop-piece.invariant.device c.in-Err.ensures.device;
    }
