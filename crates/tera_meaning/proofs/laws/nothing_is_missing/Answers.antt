use Rattle.tera_meaning.proofs.Faultless.{nothing_is_missing}
use Rattle.tera_meaning.proofs.laws.nothing_is_missing.Goals as goal

pub returns : goal.returns
returns c = nothing_is_missing
