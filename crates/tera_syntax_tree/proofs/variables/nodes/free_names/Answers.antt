use Rattle.tera_syntax_tree.proofs.Unions.{empty}
use Rattle.tera_syntax_tree.proofs.Rows.{before-nothing}
use Rattle.tera_syntax_tree.proofs.variables.nodes.free_names.Goals as goal

pub returns-clause-ok : goal.returns-clause-ok
returns-clause-ok c =
    before-nothing _ _ _ _ (empty _ c.new-found.ensures.empty) c.in_ok-add_all.ensures
