use Rattle.std.proofs.Common.{[], ◌∷◌, ap, sym, ◌∙◌}
use Rattle.tera_syntax_tree.specs.declared.node.Captured.{Captured}
use Rattle.tera_syntax_tree.specs.Tree.{If}
use Rattle.tera_syntax_tree.specs.View.{capture_of, component_call_of, expr_of, for_of, node_of, nodes_of}
use Rattle.tera_syntax_tree.proofs.Views.{view_capture, view_component_call, view_for, view_if, view_section}
use Rattle.tera_code.specs.declared.instruction.Instruction.TheVariants as instruction
use Rattle.tera_code.specs.Code.{lengthened, node_code}
use Rattle.tera_code.proofs.Filled.{choice_written, loop_written}
use Rattle.tera_code.proofs.Lengthened.{lengthened-nothing}
use Rattle.tera_code.proofs.Written.{on_ok_by, seen, two_written}
use Rattle.tera_code.proofs.compiler.Compiler.+nodes.Goals as goal

pub node-returns-in_ok-expression-in-If : goal.node-returns-in_ok-expression-in-If
node-returns-in_ok-expression-in-If t c =
    record { ok = seen (λ n. node_code n c.args.drops) _ _ _ _ _ (ap (λ x. If (expr_of x) (nodes_of c.in-If.body.items) (nodes_of c.in-If.other.items)) c.deref.ensures ∙ sym (ap node_of c.in-If.is ∙ view_if c.in-If.condition c.in-If.body c.in-If.other)) (two_written _ _ _ _ _ _ c.in_ok-expression-in-If.ensures.ok c.fork.ensures.ok) }

pub node-returns-in-For : goal.node-returns-in-For
node-returns-in-For t c =
    record { ok = seen (λ n. node_code n c.args.drops) _ _ _ _ _ (ap (λ x. for_of x c.in-For.body.items c.in-For.other.items) c.deref-in-For.ensures ∙ sym (ap node_of c.in-For.is ∙ view_for c.in-For.heading c.in-For.body c.in-For.other)) c.for_loop.ensures.ok }

pub node-returns-in_ok-section-in-Capture : goal.node-returns-in_ok-section-in-Capture
node-returns-in_ok-section-in-Capture t c =
    let same = c.deref-in-Capture-2.ensures ∙ sym c.deref-in-Capture.ensures in
    let stored = on_ok_by _ _ _ _ (ap (λ (x : Captured). lengthened c.section.new.self (instruction.Store x.name.now c.in-Capture.is_global ∷ [])) same) c.store.ensures.ok in
    record { ok = seen (λ n. node_code n c.args.drops) _ _ _ _ _ (ap (λ x. capture_of x (nodes_of c.in-Capture.body.items) c.in-Capture.is_global) c.deref-in-Capture.ensures ∙ sym (ap node_of c.in-Capture.is ∙ view_capture c.in-Capture.is_global c.in-Capture.captured c.in-Capture.body)) (two_written _ _ _ _ _ _ c.in_ok-section-in-Capture.ensures.ok stored) }

pub node-returns-in_ok-section-in-FilterSection : goal.node-returns-in_ok-section-in-FilterSection
node-returns-in_ok-section-in-FilterSection t c =
    record { ok = seen (λ n. node_code n c.args.drops) _ _ _ _ _ (sym (ap node_of c.in-FilterSection.is ∙ view_section c.in-FilterSection.filters c.in-FilterSection.body)) (two_written _ _ _ _ _ _ c.in_ok-section-in-FilterSection.ensures.ok c.emit.ensures.ok) }

pub node-returns-in_ok-capture-in-ComponentCall : goal.node-returns-in_ok-capture-in-ComponentCall
node-returns-in_ok-capture-in-ComponentCall t c =
    record { ok = seen (λ n. node_code n c.args.drops) _ _ _ _ _ (ap (λ x. component_call_of x (nodes_of c.in-ComponentCall.body.items) c.in-ComponentCall.span) c.deref-in-ComponentCall.ensures ∙ sym (ap node_of c.in-ComponentCall.is ∙ view_component_call c.in-ComponentCall.tag c.in-ComponentCall.body c.in-ComponentCall.span)) (two_written _ _ _ _ _ _ c.in_ok-capture-in-ComponentCall.ensures.ok c.component_call.ensures.ok) }

pub fork-returns : goal.fork-returns
fork-returns t c =
    record { ok = on_ok_by _ _ _ _ (choice_written _ _ _ _ _ _ [] _ _ _ _ _ (lengthened-nothing _) c.in_ok-position.ensures.position c.in_ok-position.ensures.ok c.in_ok-body.ensures.ok c.in_ok-position-2.ensures.position c.in_ok-position-2.ensures.ok c.in_ok-body-2.ensures.ok c.count_after.ensures) c.fill.ensures.ok }

pub for_loop-returns : goal.for_loop-returns
for_loop-returns t c =
    record { ok = on_ok_by _ _ _ _ (loop_written _ _ _ _ _ _ _ _ _ _ _ _ _ c.args.heading.now c.in_ok-expression.ensures.ok c.in_ok-position.ensures.position c.in_ok-position.ensures.ok c.in_ok-body.ensures.ok c.in_ok-end_turns.ensures.ok c.in_ok-position-2.ensures.position c.in_ok-position-2.ensures.ok c.in_ok-body-2.ensures.ok c.count_after.ensures) c.fill.ensures.ok }
