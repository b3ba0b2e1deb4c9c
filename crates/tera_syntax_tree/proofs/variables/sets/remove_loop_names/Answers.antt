use Rattle.tera_syntax_tree.proofs.Unions.{without_loop_names}
use Rattle.tera_syntax_tree.proofs.variables.sets.remove_loop_names.Goals as goal

pub returns-in-Some : goal.returns-in-Some
returns-in-Some c =
    without_loop_names c.args.heading.now.key c.in-Some.key c.args.heading.now.name.now _ _ _ c.in-Some.is c.remove.ensures c.remove-in-Some.ensures
