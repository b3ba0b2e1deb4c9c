use Rattle.std.proofs.Common.{sym, ap, Ok}
use Rattle.tera_built_ins.proofs.Replacing.{replace-is}
use Rattle.tera_built_ins.proofs.replace.replace_all.Goals as goal

-- src/replace.rt
pub returns-in_ok-replace : goal.returns-in_ok-replace
returns-in_ok-replace c = sym (ap Ok (replace-is c.args.from c.args.to.now c.args.text.now _ c.utf8.text c.in_ok-replace.ensures.ok))
