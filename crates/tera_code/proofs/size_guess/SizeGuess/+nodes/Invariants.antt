use Rattle.tera_syntax_tree.proofs.Walks.{node_measure, nodes_measure}
use Rattle.tera_code.proofs.size_guess.SizeGuess.+nodes.Given as goal

abbrev pub decreases-add_nodes : goal.decreases-add_nodes
decreases-add_nodes l = nodes_measure l.nodes.now

abbrev pub decreases-add_tag : goal.decreases-add_tag
decreases-add_tag l = node_measure l.node.now
