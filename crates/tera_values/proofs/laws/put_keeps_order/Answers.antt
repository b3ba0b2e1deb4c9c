use Rattle.tera_values.proofs.Contexts.{kept_order}
use Rattle.tera_values.proofs.laws.put_keeps_order.Goals as goal

pub returns : goal.returns
returns c = kept_order
