use Rattle.std.proofs.Common.{◌≡◌, ◌+◌, ◌*◌, drop}
use Rattle.std.specs.Prelude.{max}
use Rattle.tera_syntax_tree.specs.View.{nodes_of}
use Rattle.tera_code.specs.Code.{nodes_code, lengthened}
use Rattle.tera_code.proofs.compiler.Compiler.+nodes.Given as goal

abbrev pub invariant-nodes-loop-node : goal.invariant-nodes-loop-node
invariant-nodes-loop-node l =
    lengthened l.self (nodes_code (nodes_of (drop l.node-index l.nodes)) l.drops) ≡ lengthened l.initial.self (nodes_code (nodes_of l.nodes) l.drops)

-- the deepest of the nodes, in either body where there are two, and then who calls whom at one depth
abbrev pub decreases-node : goal.decreases-node
decreases-node l = 6 * goal.size-node l + 1

abbrev pub decreases-nodes : goal.decreases-nodes
decreases-nodes l = 6 * goal.size-nodes l + 2

abbrev pub decreases-body : goal.decreases-body
decreases-body l = 6 * goal.size-body l + 3

abbrev pub decreases-fork : goal.decreases-fork
decreases-fork l = 6 * max (goal.size-fork l) (goal.size-fork (record l { body = l.other })) + 4

abbrev pub decreases-for_loop : goal.decreases-for_loop
decreases-for_loop l = 6 * max (goal.size-for_loop l) (goal.size-for_loop (record l { body = l.other })) + 4

abbrev pub decreases-capture : goal.decreases-capture
decreases-capture l = 6 * goal.size-capture l + 4

abbrev pub decreases-section : goal.decreases-section
decreases-section l = 6 * goal.size-section l + 5
