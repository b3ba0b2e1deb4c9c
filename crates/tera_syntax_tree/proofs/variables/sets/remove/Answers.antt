use Rattle.tera_syntax_tree.proofs.Unions.{removed}
use Rattle.tera_syntax_tree.proofs.variables.sets.remove.Goals as goal

pub returns : goal.returns
returns c = removed c.args.name.now c.args.found.now c.remove.new.self c.remove.ensures.updates
