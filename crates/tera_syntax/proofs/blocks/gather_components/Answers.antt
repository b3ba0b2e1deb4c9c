use Rattle.std.proofs.Common.{◌≤◌, ◌∷◌, [], ◌++◌, ap, sym, ◌∙◌, subst}
use Rattle.tera_syntax_tree.specs.Inside.{DefinitionsInside}
use Rattle.tera_syntax_tree.specs.View.{nodes_of, definitions_of}
use Rattle.tera_syntax.specs.Names.{first_text, placed}
use Rattle.tera_syntax.specs.View.{names_of}
use Rattle.tera_syntax.proofs.Doubled.{first_text-within}
use Rattle.tera_syntax.proofs.Gathered.{next_component, component_gathered}
use Rattle.tera_syntax.proofs.blocks.gather_components.Goals as goal

pub loop-definition-preserved : goal.loop-definition-preserved
loop-definition-preserved c =
    let ds = c.args.definitions.now in
    let i = c.loop-definition.definition-index in
    let d = c.definition-item.result in
    let next = next_component ds i d c.loop-definition-test.true c.definition-item.is in
    let at = c.first_text-at.ensures ∙ ap (λ xs. first_text (nodes_of xs)) c.as_slice.ensures.value in
    record {
      gathered = component_gathered _ _ ds i d _ next
          (c.in_ok-gather_component.ensures.gathered ∙ ap (λ n. names_of c.loop-definition.names.items ++ placed d.signature.name.now n ∷ []) at)
          c.loop-definition.invariant.gathered;
      points = λ size inside before.
          let b = c.loop-definition.invariant.points size inside before in
          let p = subst (λ ds. DefinitionsInside size (definitions_of ds)) next b.0 in
          (p.1, c.in_ok-gather_component.ensures.points size (subst (λ n. n ≤ size) (sym at) (first_text-within size (nodes_of d.body.items) p.0)) b.1);
    }
