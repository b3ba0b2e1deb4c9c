use Rattle.tera_machine.proofs.Reaching.{ran_alone_after}
use Rattle.tera_machine.proofs.configuration.Configuration.run_name_or_other.Goals as goal

pub returns-in-Some-2 : goal.returns-in-Some-2
returns-in-Some-2 g c = ran_alone_after c.requires.can c.in-Some.ensures.means c.continue_after.ensures c.load_name_turn_first.ensures
