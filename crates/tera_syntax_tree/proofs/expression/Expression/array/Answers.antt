use Rattle.tera_syntax_tree.proofs.Views.{view_array}
use Rattle.tera_syntax_tree.proofs.expression.Expression.array.Goals as goal

pub returns : goal.returns
returns c = view_array c.args.items c.args.span
