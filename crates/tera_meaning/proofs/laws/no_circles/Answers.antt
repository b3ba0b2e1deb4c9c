use Rattle.tera_meaning.proofs.Rounds.{no_circles}
use Rattle.tera_meaning.proofs.laws.no_circles.Goals as goal

pub returns : goal.returns
returns c = no_circles
