use Rattle.std.proofs.Common.{rules, ◌≡◌, false, refl, ◌∙◌, ◌∷◌, [], ◌++◌, length, ap, sym}
use Rattle.tera_syntax_tree.specs.declared.expression.Applied.{out-Applied}
use Rattle.tera_syntax_tree.specs.declared.expression.FunctionCall.{out-FunctionCall}
use Rattle.tera_syntax_tree.specs.declared.expression.Choice.{Choice}
use Rattle.tera_syntax_tree.specs.declared.expression.ComponentTag.{out-ComponentTag}
use Rattle.tera_syntax_tree.specs.declared.expression.Operands.{Operands}
use Rattle.tera_syntax_tree.specs.Tree.{Not, Negate, And, Or, Ternary, Array, Map, Super, Filter, Test}
use Rattle.tera_syntax_tree.specs.View.{applied_of, called_of, comprehension_of, tag_of, expr_of, items_of, entries_of, arguments_of}
use Rattle.tera_syntax_tree.proofs.Views.{view_array, view_map, view_super, view_filter, view_test, view_call, view_component, view_comprehension}
use Rattle.tera_code.specs.declared.instruction.Instruction.TheVariants as instruction
use Rattle.tera_code.specs.Calls.{call_of}
use Rattle.tera_code.specs.Code.{arguments_code, argument_names, entries_code, expr_code, keys_in, lengthened}
use Rattle.tera_code.proofs.Filled.{jump_written, choice_written, comprehension_written}
use Rattle.tera_code.proofs.Written.{applied_written, arguments_counted, decided, kept, kept_if, on_ok_by, seen, slice_written, taken_written}
use Rattle.tera_code.proofs.compiler.Compiler.+expressions.Goals as goal

pub expression-returns-in-Not : goal.expression-returns-in-Not
expression-returns-in-Not t c =
    record { ok = seen expr_code _ _ _ _ _ (ap (λ x. Not (expr_of x) c.in-Not.span) c.deref-in-Not.ensures ∙ sym (ap expr_of c.in-Not.is)) (c.unary_operation.ensures.ok c.in-Not.span) }

pub expression-returns-in-Negate : goal.expression-returns-in-Negate
expression-returns-in-Negate t c =
    record { ok = seen expr_code _ _ _ _ _ (ap (λ x. Negate (expr_of x) c.in-Negate.span) c.deref-in-Negate.ensures ∙ sym (ap expr_of c.in-Negate.is)) (c.unary_operation-in-Negate.ensures.ok c.in-Negate.span) }

pub expression-returns-in-And : goal.expression-returns-in-And
expression-returns-in-And t c =
    record { ok = seen expr_code _ _ _ _ _ (ap (λ (x : Operands). And (expr_of x.left) (expr_of x.right) c.in-And.span) c.deref-in-And.ensures ∙ sym (ap expr_of c.in-And.is)) (c.logical_operation.ensures.ok c.in-And.span) }

pub expression-returns-in-Or : goal.expression-returns-in-Or
expression-returns-in-Or t c =
    record { ok = seen expr_code _ _ _ _ _ (ap (λ (x : Operands). Or (expr_of x.left) (expr_of x.right) c.in-Or.span) c.deref-in-Or.ensures ∙ sym (ap expr_of c.in-Or.is)) (c.logical_operation-in-Or.ensures.ok c.in-Or.span) }

pub expression-returns-in-Ternary : goal.expression-returns-in-Ternary
expression-returns-in-Ternary t c =
    record { ok = seen expr_code _ _ _ _ _ (ap (λ (x : Choice). Ternary (expr_of x.value) (expr_of x.condition) (expr_of x.other) c.in-Ternary.span) c.deref-in-Ternary.ensures ∙ sym (ap expr_of c.in-Ternary.is)) (c.choice.ensures.ok c.in-Ternary.span) }

pub expression-returns-in_ok-expression-in-Slice : goal.expression-returns-in_ok-expression-in-Slice
expression-returns-in_ok-expression-in-Slice t c =
    record { ok = slice_written _ _ _ _ c.in-Slice.optional c.in-Slice.sliced c.in-Slice.span _ _ _ c.in-Slice.is c.deref-in-Slice.ensures c.deref-in-Slice-2.ensures c.in_ok-expression-in-Slice.ensures.ok c.slice.ensures.ok }

pub expression-returns-in-Array : goal.expression-returns-in-Array
expression-returns-in-Array t c =
    record { ok = seen expr_code _ _ _ _ _ (ap (λ xs. Array (items_of xs) c.in-Array.span) c.as_slice.ensures.value ∙ sym (ap expr_of c.in-Array.is ∙ view_array c.in-Array.items c.in-Array.span)) c.array.ensures.ok }

pub expression-returns-in-Map : goal.expression-returns-in-Map
expression-returns-in-Map t c =
    record { ok = seen expr_code _ _ _ _ _ (ap (λ xs. Map (entries_of xs) c.in-Map.span) c.as_slice-in-Map.ensures.value ∙ sym (ap expr_of c.in-Map.is ∙ view_map c.in-Map.entries c.in-Map.span)) c.map.ensures.ok }

pub expression-returns-in-Super : goal.expression-returns-in-Super
expression-returns-in-Super t c =
    record { ok = seen expr_code _ _ _ _ _ (ap (λ xs. Super (arguments_of xs) c.in-Super.span) c.as_slice-in-Super.ensures.value ∙ sym (ap expr_of c.in-Super.is ∙ view_super c.in-Super.arguments c.in-Super.span)) c.super_call.ensures.ok }

pub expression-returns-in-Comprehension : goal.expression-returns-in-Comprehension
expression-returns-in-Comprehension t c =
    record { ok = seen expr_code _ _ _ _ _ (ap (λ x. comprehension_of x c.in-Comprehension.span) c.deref-in-Comprehension.ensures ∙ sym (ap expr_of c.in-Comprehension.is ∙ view_comprehension c.in-Comprehension.collected c.in-Comprehension.span)) c.comprehension.ensures.ok }

pub expression-returns-in-Filter : goal.expression-returns-in-Filter
expression-returns-in-Filter t c =
    record { ok = seen expr_code _ _ _ _ _ (ap (λ x. applied_of Filter x c.in-Filter.span) c.deref-in-Filter.ensures ∙ sym (ap expr_of c.in-Filter.is ∙ view_filter c.in-Filter.applied c.in-Filter.span)) c.application.ensures.ok }

pub expression-returns-in-Test : goal.expression-returns-in-Test
expression-returns-in-Test t c =
    record { ok = seen expr_code _ _ _ _ _ (ap (λ x. applied_of Test x c.in-Test.span) c.deref-in-Test.ensures ∙ sym (ap expr_of c.in-Test.is ∙ view_test c.in-Test.applied c.in-Test.span)) c.application-in-Test.ensures.ok }

pub expression-returns-in-Call : goal.expression-returns-in-Call
expression-returns-in-Call t c =
    record { ok = seen expr_code _ _ _ _ _ (ap (λ x. called_of x c.in-Call.span) c.deref-in-Call.ensures ∙ sym (ap expr_of c.in-Call.is ∙ view_call c.in-Call.called c.in-Call.span)) c.function_call.ensures.ok }

pub expression-returns-in-Component : goal.expression-returns-in-Component
expression-returns-in-Component t c =
    record { ok = seen expr_code _ _ _ _ _ (ap (λ x. tag_of x c.in-Component.span) c.deref-in-Component.ensures ∙ sym (ap expr_of c.in-Component.is ∙ view_component c.in-Component.tag c.in-Component.span)) c.tag.ensures.ok }

pub logical_operation-returns-then-is_or : goal.logical_operation-returns-then-is_or
logical_operation-returns-then-is_or t c =
    record { ok = λ span. on_ok_by _ _ _ _ (jump_written _ _ _ _ _ _ _ _ (λ count. instruction.JumpIfTrueOrPop count) c.in_ok-expression.ensures.ok c.in_ok-position.ensures.position c.in_ok-position.ensures.ok c.in_ok-expression-2.ensures.ok c.count_after-count.ensures ∙ decided c.args.self.now _ _ (expr_of c.args.operands.now.left) (expr_of c.args.operands.now.right) span c.if-is_or.true) c.fill.ensures.ok }

pub logical_operation-returns-else-is_or : goal.logical_operation-returns-else-is_or
logical_operation-returns-else-is_or t c =
    record { ok = λ span. on_ok_by _ _ _ _ (jump_written _ _ _ _ _ _ _ _ (λ count. instruction.JumpIfFalseOrPop count) c.in_ok-expression.ensures.ok c.in_ok-position.ensures.position c.in_ok-position.ensures.ok c.in_ok-expression-2.ensures.ok c.count_after-count.ensures ∙ decided c.args.self.now _ _ (expr_of c.args.operands.now.left) (expr_of c.args.operands.now.right) span c.if-is_or.false) c.fill-else-is_or.ensures.ok }

pub choice-returns : goal.choice-returns
choice-returns t c =
    record { ok = λ span. on_ok_by _ _ _ _ (choice_written _ _ _ _ _ _ _ _ _ _ _ _ c.in_ok-expression.ensures.ok c.in_ok-position.ensures.position c.in_ok-position.ensures.ok c.in_ok-expression-2.ensures.ok c.in_ok-position-2.ensures.position c.in_ok-position-2.ensures.ok c.in_ok-expression-3.ensures.ok c.count_after.ensures) c.fill.ensures.ok }

pub comprehension-returns : goal.comprehension-returns
comprehension-returns t c =
    let none : c.new.result ≡ [] = search (rules, c.new.ensures) in
    record { ok = on_ok_by _ _ _ _ (ap (λ xs. lengthened c.emit.new.self (instruction.MakeArray xs c.args.span ∷ [])) none ∙ comprehension_written _ _ _ _ _ _ _ _ _ c.args.collected.now.heading c.args.span c.in_ok-expression.ensures.ok c.in_ok-start.ensures.position c.in_ok-start.ensures.ok c.in_ok-turn.ensures.ok c.in_ok-end_turns.ensures.ok c.in_ok-emit.ensures.ok) c.emit-2.ensures.ok }

pub turn-returns-in_ok-expression-in-None : goal.turn-returns-in_ok-expression-in-None
turn-returns-in_ok-expression-in-None t c =
    record { ok = on_ok_by _ _ _ _ (kept _ _ _ _ c.args.collected.now.value c.args.collected.now.value c.in-None.is c.in_ok-expression-in-None.ensures.ok refl refl) c.emit.ensures.ok }

pub turn-returns-in_ok-emit-in-Some : goal.turn-returns-in_ok-emit-in-Some
turn-returns-in_ok-emit-in-Some t c =
    record { ok = on_ok_by _ _ _ _ (kept_if _ _ _ _ _ _ _ c.in-Some.condition _ c.args.collected.now.value c.args.collected.now.value _ _ c.in-Some.is c.in_ok-expression-in-Some.ensures.ok c.deref.ensures c.in_ok-position-in-Some.ensures.position c.in_ok-position-in-Some.ensures.ok c.in_ok-expression-in-Some-2.ensures.ok refl c.in_ok-emit-in-Some.ensures.ok c.count_after.ensures refl) c.fill.ensures.ok }

pub super_call-returns : goal.super_call-returns
super_call-returns t c =
    record { ok = on_ok_by _ _ _ _ (ap (λ count. lengthened c.args.self.now (arguments_code (arguments_of c.args.arguments.now) ++ instruction.TakeSuper count c.args.span ∷ [])) (arguments_counted c.args.arguments.now)) (taken_written _ _ _ _ _ c.args.arguments.now (λ x. arguments_code (arguments_of x)) (λ y. instruction.TakeSuper (length y) c.args.span) _ refl refl c.in_ok-arguments.ensures.ok c.emit.ensures.ok) }

pub application-returns : goal.application-returns
application-returns t c =
    record { ok = applied_written _ _ _ _ _ _ _ (out-Applied c.args.applied.now).arguments.items (λ all. call_of c.args.kind (out-Applied c.args.applied.now).name.now (argument_names all) c.args.span) _ c.as_slice-arguments.ensures.value c.as_slice-arguments.ensures.value c.in_ok-expression.ensures.ok c.in_ok-arguments.ensures.ok c.call.ensures.ok }

pub function_call-returns : goal.function_call-returns
function_call-returns t c =
    record { ok = taken_written _ _ _ _ _ (out-FunctionCall c.args.called.now).arguments.items (λ x. arguments_code (arguments_of x)) (λ y. instruction.CallFunction (out-FunctionCall c.args.called.now).name.now (argument_names (arguments_of y)) c.args.span) _ c.as_slice-arguments.ensures.value c.as_slice-arguments.ensures.value c.in_ok-arguments.ensures.ok c.call.ensures.ok }

pub tag-returns : goal.tag-returns
tag-returns t c =
    record { ok = taken_written _ _ _ _ _ (out-ComponentTag c.args.tag.now).attributes.items (λ x. entries_code (entries_of x)) (λ y. instruction.TakeComponent (out-ComponentTag c.args.tag.now).name.now (keys_in (entries_of y)) false c.args.span) _ c.as_slice.ensures.value c.as_slice-2.ensures.value c.in_ok-entries.ensures.ok c.take_component.ensures.ok }
