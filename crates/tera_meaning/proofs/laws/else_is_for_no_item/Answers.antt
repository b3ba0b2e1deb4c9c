use Rattle.tera_meaning.proofs.Bodies.{else_is_for_no_item}
use Rattle.tera_meaning.proofs.laws.else_is_for_no_item.Goals as goal

pub returns : goal.returns
returns c = else_is_for_no_item
