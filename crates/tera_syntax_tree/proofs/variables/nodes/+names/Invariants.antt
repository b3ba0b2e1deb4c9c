use Rattle.std.proofs.Common.{◌≡◌, ◌≤◌, ◌+◌, ◌*◌, length, drop}
use Rattle.tera_syntax_tree.specs.View.{nodes_of}
use Rattle.tera_syntax_tree.specs.Sets.{names_in, before_all}
use Rattle.tera_syntax_tree.proofs.Walks.{node_measure, nodes_measure}
use Rattle.tera_syntax_tree.proofs.variables.nodes.+names.Given as goal

abbrev pub invariant-add_all-back : goal.invariant-add_all-back
invariant-add_all-back l = record {
  inside : l.left ≤ length l.nodes;
  found : names_in l.found ≡ before_all (nodes_of (drop l.left l.nodes)) (names_in l.initial.found);
}

abbrev pub decreases-add_all-back : goal.decreases-add_all-back
decreases-add_all-back l = l.left

abbrev pub decreases-add_all : goal.decreases-add_all
decreases-add_all l = 2 * nodes_measure l.nodes.now

abbrev pub decreases-add : goal.decreases-add
decreases-add l = 2 * node_measure l.node.now + 1

abbrev pub decreases-add_body : goal.decreases-add_body
decreases-add_body l = 2 * node_measure l.node.now
