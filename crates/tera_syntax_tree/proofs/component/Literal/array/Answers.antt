use Rattle.tera_syntax_tree.proofs.Views.{view_array_literal}
use Rattle.tera_syntax_tree.proofs.component.Literal.array.Goals as goal

pub returns : goal.returns
returns c = view_array_literal c.args.items
