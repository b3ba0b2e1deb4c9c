use Rattle.std.proofs.Common.{◌++◌, ap₂, sym, ◌∙◌, subst, ◌<◌}
use Rattle.tera_syntax_tree.specs.Inside.{NodesInside}
use Rattle.tera_syntax_tree.specs.View.{node_of, nodes_of}
use Rattle.tera_syntax_tree.proofs.Walks.{falls_to_body, falls_to_node, gathered_everywhere, node_measure, nodes_measure}
use Rattle.tera_syntax.specs.Names.{blocks_at, own_block_at}
use Rattle.tera_syntax.specs.View.{Gathers}
use Rattle.tera_syntax.proofs.Gathered.{bodies_inside, gathered_behind}
use Rattle.tera_syntax.proofs.blocks.+names.Goals as goal

pub gather-gather_node-requires : goal.gather-gather_node-requires
gather-gather_node-requires t c =
    (subst (λ m. node_measure c.node-item.result < m) c.decreases (falls_to_node c.args.nodes.now c.loop-node.node-index c.node-item.result c.loop-node-test.true c.node-item.is), tt)

pub gather_node-gather-requires : goal.gather_node-gather-requires
gather_node-gather-requires t c =
    (subst (λ m. nodes_measure c.body.result.now < m) c.decreases (falls_to_body c.args.node.now c.body.result.now c.body.ensures), tt)

pub gather_node-returns-clause-gathered : goal.gather_node-returns-clause-gathered
gather_node-returns-clause-gathered t c =
    let n = node_of c.args.node.now in
    let body = blocks_at (nodes_of c.body.result.now) in
    let other = blocks_at (nodes_of c.other.result.now) in
    let all = ap₂ (λ x y. own_block_at n ++ (blocks_at x ++ blocks_at y)) c.body.ensures c.other.ensures ∙ gathered_everywhere own_block_at n in
    let old = c.args.names.now.items in
    let middle = c.gather_own.new.names.items in
    let new = c.gather-2.new.names.items in
    let behind = gathered_behind c.gather-2.result middle c.gather.new.names.items new body other c.in_ok-gather.ensures.gathered c.gather-2.ensures.gathered in
    subst (λ names. Gathers names old c.gather-2.result new) all
    (gathered_behind c.gather-2.result old middle new (own_block_at n) (body ++ other) c.in_ok-gather_own.ensures.gathered behind)

pub gather_node-returns-clause-points : goal.gather_node-returns-clause-points
gather_node-returns-clause-points t c size inside before =
    let p = bodies_inside size (node_of c.args.node.now) inside in
    let own = c.in_ok-gather_own.ensures.points size inside before in
    let body = c.in_ok-gather.ensures.points size (subst (NodesInside size) (sym c.body.ensures) p.0) own in
    c.gather-2.ensures.points size (subst (NodesInside size) (sym c.other.ensures) p.1) body
