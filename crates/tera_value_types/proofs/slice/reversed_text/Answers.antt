use Rattle.std.proofs.Common.{rules}
use Rattle.tera_value_types.proofs.Backward.{spelled_backward}
use Rattle.tera_value_types.proofs.slice.reversed_text.Goals as goal

pub returns-then-is_ascii : goal.returns-then-is_ascii
returns-then-is_ascii c = search (rules, spelled_backward)
