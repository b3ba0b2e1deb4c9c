use Rattle.std.proofs.Common.{◌≡◌, ℕ, ◌++◌, drop}
use Rattle.tera_syntax_tree.specs.Inside.{NodesInside}
use Rattle.tera_syntax_tree.specs.View.{nodes_of}
use Rattle.tera_syntax.specs.Names.{blocks_at}
use Rattle.tera_syntax.specs.Positions.{NamesWithin}
use Rattle.tera_syntax.specs.View.{names_of}
use Rattle.tera_syntax_tree.proofs.Walks.{node_measure, nodes_measure}
use Rattle.tera_syntax.proofs.blocks.+names.Given as goal

abbrev pub invariant-gather-loop-node : goal.invariant-gather-loop-node
invariant-gather-loop-node l = record {
  gathered : names_of l.names.items ++ blocks_at (nodes_of (drop l.node-index l.nodes)) ≡ names_of l.initial.names.items ++ blocks_at (nodes_of l.nodes);
  points : (size : ℕ) → NodesInside size (nodes_of l.nodes) → NamesWithin size l.initial.names.items → NodesInside size (nodes_of (drop l.node-index l.nodes)) × NamesWithin size l.names.items;
}

abbrev pub decreases-gather : goal.decreases-gather
decreases-gather l = nodes_measure l.nodes.now

abbrev pub decreases-gather_node : goal.decreases-gather_node
decreases-gather_node l = node_measure l.node.now
