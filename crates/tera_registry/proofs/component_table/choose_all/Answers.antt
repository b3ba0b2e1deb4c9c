use Rattle.std.proofs.Common.{◌≡◌, ◌+◌, Some, drop, sym, ap, ◌∙◌, arith, slice_get}
use Rattle.tera_registry.specs.Components.{kept_names}
use Rattle.tera_registry.specs.Choices.{chosen, chosen_in}
use Rattle.tera_registry.proofs.Choosing.{chosen-more, name-at}
use Rattle.tera_registry.proofs.component_table.choose_all.Goals as goal

pub loop-number-preserved : goal.loop-number-preserved
loop-number-preserved c = λ q.
    let position = c.args.position in
    let p = c.args.priority in
    let k = c.loop-number.number in
    let names = kept_names c.args.of.now.components.items in
    let at : slice_get names k ≡ Some c.name.result.now =
    name-at c.args.of.now.components.items k c.index.result.now (omega (arith, c.len-number-end.ensures, c.loop-number-test.true)) c.index.ensures ∙ ap Some (sym c.name.ensures) in
    ap (chosen_in q position p (k + 1) (drop (k + 1) names)) (c.in_ok-choose.ensures q) ∙ sym (chosen-more q c.name.result.now position p k names (chosen c.loop-number.taken q) at) ∙ c.loop-number.invariant q
