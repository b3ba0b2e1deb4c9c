use Rattle.tera_data.proofs.Members.{new_goes_last}
use Rattle.tera_data.proofs.laws.new_name_goes_last.Goals as goal

pub returns : goal.returns
returns c = new_goes_last
