use Rattle.tera_meaning.proofs.Rounds.{counts_tell_circles}
use Rattle.tera_meaning.proofs.laws.counts_tell_circles.Goals as goal

pub returns : goal.returns
returns c = counts_tell_circles
