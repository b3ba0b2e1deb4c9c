use Rattle.tera_syntax_tree.proofs.Views.{view_map_literal}
use Rattle.tera_syntax_tree.proofs.component.Literal.map.Goals as goal

pub returns : goal.returns
returns c = view_map_literal c.args.entries
