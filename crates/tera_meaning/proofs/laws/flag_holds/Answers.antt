use Rattle.tera_meaning.proofs.Bodies.{flag_holds}
use Rattle.tera_meaning.proofs.laws.flag_holds.Goals as goal

pub returns : goal.returns
returns c = flag_holds
