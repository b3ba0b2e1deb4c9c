use Rattle.tera_data.proofs.OneAnswer.{one_answer}
use Rattle.tera_data.proofs.laws.toml_has_one_answer.Goals as goal

pub returns : goal.returns
returns c = one_answer
