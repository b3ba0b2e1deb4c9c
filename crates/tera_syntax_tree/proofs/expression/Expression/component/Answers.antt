use Rattle.tera_syntax_tree.proofs.Views.{view_component}
use Rattle.tera_syntax_tree.proofs.expression.Expression.component.Goals as goal

pub returns : goal.returns
returns c = view_component c.args.tag c.args.span
