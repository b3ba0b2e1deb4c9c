use Rattle.tera_values.proofs.Division.{values_divided}
use Rattle.tera_values.proofs.laws.values_are_divided.Goals as goal

pub returns : goal.returns
returns c = values_divided
