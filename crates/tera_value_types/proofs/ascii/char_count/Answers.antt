use Rattle.std.proofs.Common.{rules}
use Rattle.std.proofs.lemmas.Str.{chars-IsAscii, chars_from_encodes}
use Rattle.tera_value_types.proofs.ascii.char_count.Goals as goal

pub returns-then-is_ascii : goal.returns-then-is_ascii
returns-then-is_ascii c = search (rules, chars-IsAscii)

pub returns-else-is_ascii : goal.returns-else-is_ascii
returns-else-is_ascii c = search (rules, chars_from_encodes)
