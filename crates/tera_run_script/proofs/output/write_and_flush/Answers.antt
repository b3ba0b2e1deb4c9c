use Rattle.std.specs.List.{flat_map}
use Rattle.tera_run_script.proofs.Devices.{taking, through_then, to_flush}
use Rattle.tera_run_script.proofs.Passages.{flushed}
use Rattle.tera_run_script.proofs.output.write_and_flush.Goals as goal

pub returns-in-Ok-clause-written : goal.returns-in-Ok-clause-written
returns-in-Ok-clause-written g c =
    let passed = g.W.Output.passed in
    let contents = g.W.Output.contents in
    record {
      put = flushed (passed c.args.writer.now) (passed c.write_pieces.new.writer) (passed c.flush.new.self)
          (flat_map (λ piece. piece.now) c.args.pieces.now) c.flush.result c.in-Ok.ensures.put c.flush.ensures.passed;
      device = through_then _ taking passed contents c.args.writer.now c.write_pieces.new.writer c.flush.new.self c.in-Ok.ensures.device
          (to_flush passed contents c.write_pieces.new.writer c.flush.new.self c.flush.result c.flush.ensures.passed c.flush.ensures.device);
    }
