use Rattle.std.proofs.Common.{◌≡◌, ◌++◌, drop}
use Rattle.tera_syntax_tree.specs.Blocks.{top_blocks}
use Rattle.tera_syntax_tree.specs.View.{nodes_of}
use Rattle.tera_syntax_tree.proofs.Walks.{node_measure, nodes_measure}
use Rattle.tera_registry.proofs.top_blocks.+tops.Given as goal

abbrev pub invariant-add_all-loop-node : goal.invariant-add_all-loop-node
invariant-add_all-loop-node l =
    l.found.items ++ top_blocks (nodes_of (drop l.node-index l.nodes)) ≡ l.initial.found.items ++ top_blocks (nodes_of l.nodes)

abbrev pub decreases-add_all : goal.decreases-add_all
decreases-add_all l = nodes_measure l.nodes.now

abbrev pub decreases-add : goal.decreases-add
decreases-add l = node_measure l.node.now
