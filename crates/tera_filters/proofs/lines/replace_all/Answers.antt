use Rattle.std.proofs.Common.{sym, ap, Ok}
use Rattle.tera_built_ins.proofs.Replacing.{replace-is}
use Rattle.tera_filters.proofs.lines.replace_all.Goals as goal

pub returns : goal.returns
returns c = sym (ap Ok (replace-is c.args.from c.args.to.now c.args.text.now _ c.utf8.text c.in_ok-replace.ensures.ok))
