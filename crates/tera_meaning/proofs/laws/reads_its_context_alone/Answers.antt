use Rattle.tera_meaning.proofs.Bodies.{reads_its_context_alone}
use Rattle.tera_meaning.proofs.laws.reads_its_context_alone.Goals as goal

pub returns : goal.returns
returns c = reads_its_context_alone
