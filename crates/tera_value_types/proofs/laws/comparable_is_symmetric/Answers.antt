use Rattle.tera_value_types.proofs.Symmetric.{comparable_sym}
use Rattle.tera_value_types.proofs.laws.comparable_is_symmetric.Goals as goal

pub returns : goal.returns
returns c = comparable_sym
