use Rattle.tera_syntax_tree.proofs.Views.{view_filter}
use Rattle.tera_syntax_tree.proofs.expression.Expression.filter.Goals as goal

pub returns : goal.returns
returns c = view_filter c.args.applied c.args.span
