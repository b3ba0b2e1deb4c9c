use Rattle.tera_syntax_tree.proofs.Views.{view_block}
use Rattle.tera_syntax_tree.proofs.node.Node.block.Goals as goal

pub returns : goal.returns
returns c = view_block (record { name = c.args.name; body = c.args.body; span = c.args.span })
