use Rattle.tera_syntax_tree.proofs.Views.{view_super}
use Rattle.tera_syntax_tree.proofs.expression.Expression.super_call.Goals as goal

pub returns : goal.returns
returns c = view_super c.args.arguments c.args.span
