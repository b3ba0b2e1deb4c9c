use Rattle.tera_machine.proofs.Looping.{has_turns}
use Rattle.tera_machine.proofs.configuration.Configuration.close_loop.Goals as goal

pub close_loop-requires : goal.close_loop-requires
close_loop-requires c = has_turns _ _ c.requires
