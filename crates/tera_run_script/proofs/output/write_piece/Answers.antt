use Rattle.std.proofs.Common.{arith}
use Rattle.std.proofs.lemmas.Grind.{common_steps}
use Rattle.tera_run_script.proofs.Devices.{taking, through_then, to_write}
use Rattle.tera_run_script.proofs.Passages.{along_more}
use Rattle.tera_run_script.proofs.output.write_piece.Goals as goal

pub loop-rest-preserved : goal.loop-rest-preserved
loop-rest-preserved g c =
    let passed = g.W.Output.passed in
    let contents = g.W.Output.contents in
    record {
      along = grind (arith, common_steps, along_more);
      device = through_then _ taking passed contents c.args.writer.now c.loop-rest.writer c.write.new.self c.loop-rest.invariant.device
          (to_write passed contents c.loop-rest.writer c.write.new.self c.loop-rest.rest.now c.write.result c.write.ensures.passed c.write.ensures.device);
    }
