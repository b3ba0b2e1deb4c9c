use Rattle.std.proofs.Common.{subst, ◌<◌}
use Rattle.tera_syntax_tree.proofs.Walks.{falls_to_body, falls_to_other, falls_to_node, node_measure, nodes_measure}
use Rattle.tera_code.proofs.Found.{found_in_node}
use Rattle.tera_code.proofs.blocks.+blocks.Goals as goal

pub add_all-add-requires : goal.add_all-add-requires
add_all-add-requires t c =
    (subst (λ m. node_measure c.node-item.result < m) c.requires.1.0 (falls_to_node c.args.nodes.now c.loop-node.node-index c.node-item.result c.loop-node-test.true c.node-item.is), tt)

pub add-add_all-requires : goal.add-add_all-requires
add-add_all-requires t c =
    (subst (λ m. nodes_measure c.body.result.now < m) c.requires.1.0 (falls_to_body c.args.node.now c.body.result.now c.body.ensures), tt)

pub add-add_all-requires-2 : goal.add-add_all-requires-2
add-add_all-requires-2 t c =
    (subst (λ m. nodes_measure c.other.result.now < m) c.requires.1.0 (falls_to_other c.args.node.now c.other.result.now c.other.ensures), tt)

pub add-returns : goal.add-returns
add-returns t c =
    found_in_node _ _ _ _ _ c.args.node.now c.body.result.now c.other.result.now _ c.body.ensures c.other.ensures c.in_ok-add_own.ensures c.in_ok-add_all.ensures.ok c.add_all-2.ensures.ok
