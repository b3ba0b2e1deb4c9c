use Rattle.tera_values.proofs.Division.{divided}
use Rattle.tera_values.proofs.laws.division_is_euclids.Goals as goal

pub returns : goal.returns
returns c = divided
