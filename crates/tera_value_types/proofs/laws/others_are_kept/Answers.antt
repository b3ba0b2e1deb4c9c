use Rattle.tera_value_types.proofs.Symmetric.{find_other}
use Rattle.tera_value_types.proofs.laws.others_are_kept.Goals as goal

pub returns : goal.returns
returns c = find_other
