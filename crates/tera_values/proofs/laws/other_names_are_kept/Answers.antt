use Rattle.tera_values.proofs.Contexts.{others_kept}
use Rattle.tera_values.proofs.laws.other_names_are_kept.Goals as goal

pub returns : goal.returns
returns c = others_kept
