use Rattle.tera_syntax_tree.proofs.Views.{view_component_call}
use Rattle.tera_syntax_tree.proofs.node.Node.component_call.Goals as goal

pub returns : goal.returns
returns c = view_component_call c.args.tag c.args.body c.args.span
