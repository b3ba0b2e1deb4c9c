use Rattle.tera.proofs.FixedText.{markup_is_the_texts}
use Rattle.tera.proofs.laws.pages.markup_is_the_texts.Goals as goal

pub returns : goal.returns
returns c = markup_is_the_texts
