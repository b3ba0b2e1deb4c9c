use Rattle.std.proofs.Common.{◌≡◌, ◌<◌, ◌∙◌, ◌+◌, ◌-◌, ◌*◌, ap, sym, subst, drop, arith}
use Rattle.tera_syntax_tree.specs.View.{node_of, nodes_of}
use Rattle.tera_syntax_tree.specs.Sets.{names_in, before_all}
use Rattle.tera_syntax_tree.proofs.Unions.{empty}
use Rattle.tera_syntax_tree.proofs.Rows.{one-before, node-before, body-before, loop-body}
use Rattle.tera_syntax_tree.proofs.Walks.{falls_to_body, falls_to_other, falls_to_node, node_measure, nodes_measure}
use Rattle.tera_syntax_tree.proofs.variables.nodes.+names.Goals as goal

pub add_all-back-preserved : goal.add_all-back-preserved
add_all-back-preserved t c =
    let i = c.back.invariant in
    let nodes = c.args.nodes.now in
    let e : c.back.left - 1 + 1 ≡ c.back.left = omega (arith, c.back-test.true) in
    record {
      inside = omega (arith, i.inside);
      found = one-before nodes (c.back.left - 1) c.index-nodes-left.result _ _ _ (omega (arith, i.inside, c.back-test.true)) c.index-nodes-left.is (i.found ∙ ap (λ k. before_all (nodes_of (drop k nodes)) (names_in c.args.found.now)) (sym e)) c.in_ok-add.ensures;
    }

pub add_all-returns : goal.add_all-returns
add_all-returns t c =
    let none : c.back.left ≡ 0 = omega (arith, c.back-test.false) in
    c.back.invariant.found ∙ ap (λ k. before_all (nodes_of (drop k c.args.nodes.now)) (names_in c.args.found.now)) none

pub add_all-add-requires : goal.add_all-add-requires
add_all-add-requires t c =
    let falls = falls_to_node c.args.nodes.now (c.back.left - 1) c.index-nodes-left.result (omega (arith, c.back.invariant.inside, c.back-test.true)) c.index-nodes-left.is in
    (subst (λ m. 2 * node_measure c.index-nodes-left.result + 1 < m) c.decreases (omega (arith, falls)), tt)

pub add-add_all-requires : goal.add-add_all-requires
add-add_all-requires t c =
    let falls = falls_to_other c.args.node.now c.other.result.now c.other.ensures in
    (subst (λ m. 2 * nodes_measure c.other.result.now < m) c.decreases (omega (arith, falls)), tt)

pub add-add_body-requires : goal.add-add_body-requires
add-add_body-requires t c =
    (subst (λ m. 2 * node_measure c.args.node.now < m) c.decreases (omega arith), tt)

pub add-returns : goal.add-returns
add-returns t c =
    node-before _ (node_of c.args.node.now) _ _ _ _ _ c.remove_own.ensures (c.in_ok-add_all.ensures ∙ ap (λ x. before_all x (names_in c.remove_own.new.found)) c.other.ensures) c.in_ok-add_body.ensures c.add_tag.ensures

pub add_body-add_all-requires : goal.add_body-add_all-requires
add_body-add_all-requires t c =
    let falls = falls_to_body c.args.node.now c.body.result.now c.body.ensures in
    (subst (λ m. 2 * nodes_measure c.body.result.now < m) c.decreases (omega (arith, falls)), tt)

pub add_body-returns-then-not-is_loop : goal.add_body-returns-then-not-is_loop
add_body-returns-then-not-is_loop t c =
    body-before _ (node_of c.args.node.now) _ _ _ (sym c.is_loop.ensures ∙ c.if-not-is_loop.true) c.body.ensures c.add_all.ensures

pub add_body-returns : goal.add_body-returns
add_body-returns t c =
    loop-body _ (node_of c.args.node.now) _ _ _ _ _ _ _ _ (sym c.is_loop.ensures ∙ c.if-not-is_loop.false) c.body-2.ensures c.body-3.ensures c.remove_globals.ensures (empty _ c.new-inside.ensures.empty) c.in_ok-add_all.ensures c.remove_body_names.ensures c.join.ensures
