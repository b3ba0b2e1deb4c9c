use Rattle.tera_values.proofs.Contexts.{named_found}
use Rattle.tera_values.proofs.laws.named_is_found.Goals as goal

pub returns : goal.returns
returns c = named_found
