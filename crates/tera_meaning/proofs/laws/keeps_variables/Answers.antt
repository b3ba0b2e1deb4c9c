use Rattle.tera_meaning.proofs.Bodies.{keeps_variables}
use Rattle.tera_meaning.proofs.laws.keeps_variables.Goals as goal

pub returns : goal.returns
returns c = keeps_variables
