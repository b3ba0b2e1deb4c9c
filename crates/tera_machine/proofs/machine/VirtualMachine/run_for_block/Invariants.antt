use Rattle.std.proofs.Common.{◌+◌, ◌*◌}
use Rattle.tera_meaning.specs.Run.{visits_of}
use Rattle.tera_machine.specs.Subject.{meant_from}
use Rattle.tera_machine.proofs.machine.VirtualMachine.run_for_block.Given as goal

abbrev pub ghosts-run_counted : goal.ghosts-run_counted
ghosts-run_counted g a = record {
  world = g.about.world;
  most = a.steps.now + 8 * visits_of (meant_from g.about a.configuration.now);
}
