use Rattle.tera_syntax.proofs.Plain.{one_tree}
use Rattle.tera_syntax.proofs.laws.one_reading.Goals as goal

pub returns : goal.returns
returns c = one_tree
