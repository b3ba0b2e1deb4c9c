use Rattle.std.proofs.Common.{rules}
use Rattle.tera_filters.proofs.Numerals.{integer-is_number}
use Rattle.tera_filters.proofs.json_texts.put_integer.Goals as goal

-- src/json_texts.rt
pub put-requires : goal.put-requires
put-requires c = search (rules, integer-is_number)
