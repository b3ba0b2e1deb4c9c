use Rattle.std.proofs.Common.{◌≡◌, true, drop}
use Rattle.tera_syntax_tree.specs.View.{nodes_of}
use Rattle.tera_syntax_tree.specs.Free.{binds, ◌∖◌}
use Rattle.tera_syntax_tree.specs.Sets.{names_in}
use Rattle.tera_syntax_tree.proofs.Walks.{node_measure, nodes_measure}
use Rattle.tera_syntax_tree.proofs.variables.nodes.+globals.Given as goal

abbrev pub invariant-remove_globals-loop-node : goal.invariant-remove_globals-loop-node
invariant-remove_globals-loop-node l =
    names_in l.found ∖ binds true (nodes_of (drop l.node-index l.nodes)) ≡ names_in l.initial.found ∖ binds true (nodes_of l.nodes)

abbrev pub decreases-remove_globals : goal.decreases-remove_globals
decreases-remove_globals l = nodes_measure l.nodes.now

abbrev pub decreases-remove_globals_of : goal.decreases-remove_globals_of
decreases-remove_globals_of l = node_measure l.node.now
