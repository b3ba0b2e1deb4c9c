use Rattle.tera_data.proofs.Members.{last_wins}
use Rattle.tera_data.proofs.laws.last_member_wins.Goals as goal

pub returns : goal.returns
returns c = last_wins
