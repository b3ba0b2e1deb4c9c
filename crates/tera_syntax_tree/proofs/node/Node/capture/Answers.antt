use Rattle.tera_syntax_tree.proofs.Views.{view_capture}
use Rattle.tera_syntax_tree.proofs.node.Node.capture.Goals as goal

pub returns : goal.returns
returns c = view_capture c.args.is_global c.args.captured c.args.body
