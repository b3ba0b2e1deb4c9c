use Rattle.tera.proofs.FixedText.{answers_as_computed}
use Rattle.tera.proofs.laws.pages.answers_as_computed.Goals as goal

pub returns : goal.returns
returns c = answers_as_computed
