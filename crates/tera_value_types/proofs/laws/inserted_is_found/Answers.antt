use Rattle.tera_value_types.proofs.Symmetric.{find_inserted}
use Rattle.tera_value_types.proofs.laws.inserted_is_found.Goals as goal

pub returns : goal.returns
returns c = find_inserted
