use Rattle.std.proofs.Common.{◌∙◌, ap, refl, arith}
use Rattle.std.proofs.lemmas.Grind.{common_steps}
use Rattle.tera_syntax_tree.specs.declared.expression.FunctionCall.{out-FunctionCall}
use Rattle.tera_syntax_tree.specs.declared.expression.ComponentTag.{out-ComponentTag}
use Rattle.tera_syntax_tree.specs.View.{arguments_of}
use Rattle.tera_syntax_tree.specs.Free.{arguments_free, ◌∪◌}
use Rattle.tera_syntax_tree.specs.Sets.{names_in}
use Rattle.tera_syntax_tree.proofs.Unions.{empty, union-more, two, comprehended}
use Rattle.tera_syntax_tree.proofs.Forms.{whole, array, map, super, call, component, applied, comprehension, slice, index, two_operands, ternary}
use Rattle.tera_syntax_tree.proofs.variables.expressions.+expressions.Goals as goal

pub add_expression-returns-in_ok-add_expression-in-Index : goal.add_expression-returns-in_ok-add_expression-in-Index
add_expression-returns-in_ok-add_expression-in-Index t c =
    whole _ _ _ _ _ (index _ c.in-Index.optional c.in-Index.parts c.in-Index.span _ _ c.in-Index.is c.deref-in-Index-2.ensures c.deref-in-Index.ensures) (two _ _ _ _ _ _ c.in_ok-add_expression-in-Index.ensures c.add_expression-in-Index-2.ensures)

pub add_expression-returns-in_ok-add_expression-in-Binary : goal.add_expression-returns-in_ok-add_expression-in-Binary
add_expression-returns-in_ok-add_expression-in-Binary t c =
    whole _ _ _ _ _ (two_operands _ c.in-Binary.operands _ _ c.in-Binary.is c.deref-in-Binary-2.ensures c.deref-in-Binary.ensures) (two _ _ _ _ _ _ c.in_ok-add_expression-in-Binary.ensures c.add_expression-in-Binary-2.ensures)

pub add_expression-returns-in_ok-add_bounds-in-Slice : goal.add_expression-returns-in_ok-add_bounds-in-Slice
add_expression-returns-in_ok-add_bounds-in-Slice t c =
    whole _ _ _ _ _ (slice _ c.in-Slice.optional c.in-Slice.sliced c.in-Slice.span _ _ c.in-Slice.is c.deref-in-Slice-2.ensures c.deref-in-Slice.ensures) (two _ _ _ _ _ _ c.in_ok-add_bounds-in-Slice.ensures c.add_expression-in-Slice.ensures)

pub add_expression-returns-in_ok-add_expression-in-Ternary-2 : goal.add_expression-returns-in_ok-add_expression-in-Ternary-2
add_expression-returns-in_ok-add_expression-in-Ternary-2 t c =
    whole _ _ _ _ _ (ternary _ c.in-Ternary.choice c.in-Ternary.span _ _ _ c.in-Ternary.is c.deref-in-Ternary-3.ensures c.deref-in-Ternary-2.ensures c.deref-in-Ternary.ensures) (two _ _ _ _ _ _ (c.in_ok-add_expression-in-Ternary-2.ensures ∙ union-more _ _ _ _ _ refl c.in_ok-add_expression-in-Ternary.ensures) c.add_expression-in-Ternary-3.ensures)

pub add_expression-returns-in-Array : goal.add_expression-returns-in-Array
add_expression-returns-in-Array t c =
    whole _ _ _ _ _ (array _ c.in-Array.items c.in-Array.span _ c.in-Array.is c.as_slice.ensures.value) c.add_items.ensures

pub add_expression-returns-in-Map : goal.add_expression-returns-in-Map
add_expression-returns-in-Map t c =
    whole _ _ _ _ _ (map _ c.in-Map.entries c.in-Map.span _ c.in-Map.is c.as_slice-in-Map.ensures.value) c.add_entries.ensures

pub add_expression-returns-in-Comprehension : goal.add_expression-returns-in-Comprehension
add_expression-returns-in-Comprehension t c =
    whole _ _ _ _ _ (comprehension _ c.in-Comprehension.collected c.in-Comprehension.span _ c.in-Comprehension.is c.deref-in-Comprehension.ensures) c.add_collected.ensures

pub add_expression-returns-in-Super : goal.add_expression-returns-in-Super
add_expression-returns-in-Super t c =
    whole _ _ _ _ _ (super _ c.in-Super.arguments c.in-Super.span _ c.in-Super.is c.as_slice-in-Super.ensures.value) c.add_arguments.ensures

pub add_expression-returns-in-Filter : goal.add_expression-returns-in-Filter
add_expression-returns-in-Filter t c =
    whole _ _ _ _ _ (applied _ c.in-Filter.applied _ c.in-Filter.is c.deref-in-Filter.ensures) c.add_applied.ensures

pub add_expression-returns-in-Call : goal.add_expression-returns-in-Call
add_expression-returns-in-Call t c =
    whole _ _ _ _ _ (call _ c.in-Call.called c.in-Call.span _ c.in-Call.is (c.as_slice-in-Call.ensures.value ∙ ap (λ x. (out-FunctionCall x).arguments.items) c.deref-in-Call.ensures)) c.add_arguments-in-Call.ensures

pub add_expression-returns-in-Component : goal.add_expression-returns-in-Component
add_expression-returns-in-Component t c =
    whole _ _ _ _ _ (component _ c.in-Component.tag c.in-Component.span _ c.in-Component.is (c.as_slice-in-Component.ensures.value ∙ ap (λ x. (out-ComponentTag x).attributes.items) c.deref-in-Component.ensures)) c.add_entries-in-Component.ensures

pub add_collected-returns : goal.add_collected-returns
add_collected-returns t c =
    comprehended _ _ _ _ _ _ _ _ _ _ _ _ c.in_ok-add_expression.ensures (empty _ c.new-inside.ensures.empty) c.in_ok-add_optional.ensures c.in_ok-add_expression-2.ensures c.remove_loop_names.ensures c.join.ensures

pub add_applied-returns : goal.add_applied-returns
add_applied-returns t c =
    two _ _ _ _ _ _ (c.in_ok-add_arguments.ensures ∙ ap (λ xs. arguments_free (arguments_of xs) ∪ names_in c.args.found.now) c.as_slice.ensures.value) c.add_expression.ensures

-- one part of a row more, seen at each name
pub add_items-loop-part-preserved : goal.add_items-loop-part-preserved
add_items-loop-part-preserved t c = λ n. grind (arith, common_steps, ap (λ names. names n) c.in_ok-add_expression.ensures)

pub add_entries-loop-part-preserved : goal.add_entries-loop-part-preserved
add_entries-loop-part-preserved t c = λ n. grind (arith, common_steps, ap (λ names. names n) c.in_ok-add_expression.ensures)

pub add_arguments-loop-part-preserved : goal.add_arguments-loop-part-preserved
add_arguments-loop-part-preserved t c = λ n. grind (arith, common_steps, ap (λ names. names n) c.in_ok-add_expression.ensures)

pub add_bounds-returns : goal.add_bounds-returns
add_bounds-returns t c =
    two _ _ _ _ _ _ (c.in_ok-add_optional-2.ensures ∙ union-more _ _ _ _ _ refl c.in_ok-add_optional.ensures) c.add_optional-3.ensures
