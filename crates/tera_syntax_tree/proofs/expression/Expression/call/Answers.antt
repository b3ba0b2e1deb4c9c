use Rattle.tera_syntax_tree.proofs.Views.{view_call}
use Rattle.tera_syntax_tree.proofs.expression.Expression.call.Goals as goal

pub returns : goal.returns
returns c = view_call c.args.called c.args.span
