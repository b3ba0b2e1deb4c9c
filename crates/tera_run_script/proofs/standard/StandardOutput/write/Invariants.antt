use Rattle.std.proofs.Common.{◌≡◌}
use Rattle.std.specs.Io.KnownBytes.{Keeps}
use Rattle.tera_run_script.proofs.standard.StandardOutput.write.Given as goal

abbrev pub invariant-loop : goal.invariant-loop
invariant-loop g l = record {
  bytes : l.self.trace.bytes ≡ l.initial.self.trace.bytes;
  failures : l.self.trace.failures ≡ l.initial.self.trace.failures;
  device : Keeps (g.W.Write.contents l.initial.self.device) (g.W.Write.contents l.self.device);
}
