use Rattle.tera_syntax_tree.proofs.Views.{view_test}
use Rattle.tera_syntax_tree.proofs.expression.Expression.test.Goals as goal

pub returns : goal.returns
returns c = view_test c.args.applied c.args.span
