use Rattle.tera_syntax.proofs.TreeRead.{answers_as_read}
use Rattle.tera_syntax.proofs.laws.answers_as_read.Goals as goal

pub returns : goal.returns
returns c = answers_as_read
