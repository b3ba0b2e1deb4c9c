use Rattle.tera_code.proofs.Callees.{code_calls_the_same}
use Rattle.tera_code.proofs.laws.code_calls_the_same.Goals as goal

pub returns : goal.returns
returns c = code_calls_the_same
