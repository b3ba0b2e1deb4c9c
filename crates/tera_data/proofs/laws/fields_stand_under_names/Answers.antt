use Rattle.tera_data.proofs.Records.{under_names}
use Rattle.tera_data.proofs.laws.fields_stand_under_names.Goals as goal

pub returns : goal.returns
returns c = under_names
