use Rattle.std.proofs.Common.{rules}
use Rattle.std.proofs.lemmas.Str.{chars_from_encodes}
use Rattle.tera_built_ins.proofs.indent.is_one.Goals as goal

-- src/indent.rt
pub returns : goal.returns
returns c = search (rules, chars_from_encodes)
