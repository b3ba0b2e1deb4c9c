use Rattle.std.proofs.Common.{◌∙◌, ap, sym, true, arith, subst, ◌<◌}
use Rattle.std.proofs.lemmas.List.{drop_all}
use Rattle.tera_syntax_tree.specs.View.{node_of, nodes_of}
use Rattle.tera_syntax_tree.specs.Free.{binds, ◌∖◌}
use Rattle.tera_syntax_tree.specs.Sets.{names_in}
use Rattle.tera_syntax_tree.proofs.Unions.{without-pass, without_three}
use Rattle.tera_syntax_tree.proofs.Forms.{drop-here}
use Rattle.tera_syntax_tree.proofs.Walks.{binds_of_bodies, falls_to_body, falls_to_node, node_measure, nodes_measure}
use Rattle.tera_syntax_tree.proofs.variables.nodes.+globals.Goals as goal

pub remove_globals-loop-node-preserved : goal.remove_globals-loop-node-preserved
remove_globals-loop-node-preserved t c =
    without-pass _ _ _ _ _ (ap (λ xs. binds true (nodes_of xs)) (drop-here c.args.nodes.now c.loop-node.node-index c.node-item.result c.loop-node-test.true c.node-item.is)) c.remove_globals_of.ensures ∙ c.loop-node.invariant

pub remove_globals-returns : goal.remove_globals-returns
remove_globals-returns t c =
    sym (ap (λ xs. names_in c.loop-node.found ∖ binds true (nodes_of xs)) (drop_all c.loop-node.node-index c.args.nodes.now (omega (arith, c.loop-node-test.false)))) ∙ c.loop-node.invariant

pub remove_globals-remove_globals_of-requires : goal.remove_globals-remove_globals_of-requires
remove_globals-remove_globals_of-requires t c =
    (subst (λ m. node_measure c.node-item.result < m) c.decreases (falls_to_node c.args.nodes.now c.loop-node.node-index c.node-item.result c.loop-node-test.true c.node-item.is), tt)

pub remove_globals_of-returns : goal.remove_globals_of-returns
remove_globals_of-returns t c =
    let b = c.remove_globals.ensures ∙ ap (λ x. names_in c.remove_own.new.found ∖ binds true x) c.body.ensures in
    let o = c.remove_globals-2.ensures ∙ ap (λ x. names_in c.remove_globals.new.found ∖ binds true x) c.other.ensures in
    without_three _ _ _ _ _ _ _ _ c.remove_own.ensures b o (binds_of_bodies true (node_of c.args.node.now))

pub remove_globals_of-remove_globals-requires : goal.remove_globals_of-remove_globals-requires
remove_globals_of-remove_globals-requires t c =
    (subst (λ m. nodes_measure c.body.result.now < m) c.decreases (falls_to_body c.args.node.now c.body.result.now c.body.ensures), tt)
