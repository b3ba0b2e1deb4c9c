use Rattle.tera_data.proofs.Members.{known_stay}
use Rattle.tera_data.proofs.laws.known_names_stay.Goals as goal

pub returns : goal.returns
returns c = known_stay
