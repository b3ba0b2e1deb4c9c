use Rattle.tera_value_types.proofs.Same.{plain_from_same, same_from_plain}
use Rattle.tera_value_types.proofs.laws.equality_is_by_content.Goals as goal

pub returns : goal.returns
returns c = λ v w. (plain_from_same v w, same_from_plain v w)
