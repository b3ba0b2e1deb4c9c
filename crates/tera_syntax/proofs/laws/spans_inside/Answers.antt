use Rattle.tera_syntax.proofs.Inside.{tree_inside}
use Rattle.tera_syntax.proofs.laws.spans_inside.Goals as goal

pub returns : goal.returns
returns c = tree_inside
