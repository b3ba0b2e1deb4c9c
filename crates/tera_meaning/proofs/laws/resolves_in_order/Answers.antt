use Rattle.tera_meaning.proofs.Bodies.{resolves_in_order}
use Rattle.tera_meaning.proofs.laws.resolves_in_order.Goals as goal

pub returns : goal.returns
returns c = resolves_in_order
