use Rattle.tera_value_types.specs.Laws.{order_total}
use Rattle.tera_value_types.proofs.laws.order_is_total.Goals as goal

pub returns : goal.returns
returns c = order_total
