use Rattle.tera_syntax_tree.proofs.Views.{view_map}
use Rattle.tera_syntax_tree.proofs.expression.Expression.map.Goals as goal

pub returns : goal.returns
returns c = view_map c.args.entries c.args.span
