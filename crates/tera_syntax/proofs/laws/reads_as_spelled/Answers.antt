use Rattle.tera_syntax.proofs.TreeRead.{reads_as_spelled}
use Rattle.tera_syntax.proofs.laws.reads_as_spelled.Goals as goal

pub returns : goal.returns
returns c = reads_as_spelled
