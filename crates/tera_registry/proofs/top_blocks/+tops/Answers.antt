use Rattle.std.proofs.Common.{subst, sym, ◌∙◌, ◌<◌}
use Rattle.tera_syntax_tree.proofs.Walks.{falls_to_body, falls_to_node, node_measure, nodes_measure}
use Rattle.tera_registry.proofs.Bodies.{tops_alone, tops_in_node}
use Rattle.tera_registry.proofs.top_blocks.+tops.Goals as goal

pub add_all-add-requires : goal.add_all-add-requires
add_all-add-requires t c =
    (subst (λ m. node_measure c.node-item.result < m) c.decreases (falls_to_node c.args.nodes.now c.loop-node.node-index c.node-item.result c.loop-node-test.true c.node-item.is), tt)

pub add-add_all-requires : goal.add-add_all-requires
add-add_all-requires t c =
    (subst (λ m. nodes_measure c.body.result.now < m) c.decreases (falls_to_body c.args.node.now c.body.result.now c.body.ensures), tt)

pub add-returns-then-enters : goal.add-returns-then-enters
add-returns-then-enters t c =
    tops_in_node _ _ _ _ c.args.node.now c.body.result.now c.other.result.now _ (sym c.enters.ensures ∙ c.if-enters.true) c.body.ensures c.other.ensures c.in_ok-add_own.ensures c.in_ok-add_all.ensures c.add_all-then-enters.ensures

pub add-returns : goal.add-returns
add-returns t c =
    tops_alone _ _ c.args.node.now (sym c.enters.ensures ∙ c.if-enters.false) c.in_ok-add_own.ensures
