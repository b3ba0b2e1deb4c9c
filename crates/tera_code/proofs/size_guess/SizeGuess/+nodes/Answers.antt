use Rattle.std.proofs.Common.{subst, ◌<◌}
use Rattle.tera_syntax_tree.proofs.Walks.{falls_to_body, falls_to_node, node_measure, nodes_measure}
use Rattle.tera_code.proofs.size_guess.SizeGuess.+nodes.Goals as goal

pub add_nodes-add_tag-requires : goal.add_nodes-add_tag-requires
add_nodes-add_tag-requires t c =
    (subst (λ m. node_measure c.node-item.result < m) c.decreases (falls_to_node c.args.nodes.now c.loop-node.node-index c.node-item.result c.loop-node-test.true c.node-item.is), tt)

pub add_tag-add_nodes-requires : goal.add_tag-add_nodes-requires
add_tag-add_nodes-requires t c =
    (subst (λ m. nodes_measure c.body.result.now < m) c.decreases (falls_to_body c.args.node.now c.body.result.now c.body.ensures), tt)
