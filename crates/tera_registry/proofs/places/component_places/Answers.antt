use Rattle.std.proofs.Common.{◌≡◌, ◌+◌, ◌≤◌, Some, drop, length, sym, ap, ◌∙◌, arith, slice_get}
use Rattle.std.specs.Option.{option_or}
use Rattle.std.proofs.lemmas.List.{length-map}
use Rattle.tera_registry.specs.declared.components.Component.{Component}
use Rattle.tera_registry.specs.Components.{kept_names}
use Rattle.tera_registry.proofs.Choosing.{name-at}
use Rattle.tera_registry.specs.Places.{stands, place_from}
use Rattle.tera_registry.proofs.Placing.{placed-more, placed-all}
use Rattle.tera_registry.proofs.places.component_places.Goals as goal

pub loop-position-preserved : goal.loop-position-preserved
loop-position-preserved c = λ q.
    let names = kept_names c.args.components.now in
    let k = c.loop-position.position in
    let at : slice_get names k ≡ Some c.name.result.now =
    name-at c.args.components.now k _ (omega (arith, c.loop-position-test.true)) c.index-components-position.is ∙ ap (λ (b : Component). Some b.definition.name) c.index-components-position.is ∙ ap Some (sym c.name.ensures) in
    ap (λ o. option_or o (place_from q (k + 1) (drop (k + 1) names))) (c.in_ok-note.ensures q) ∙ sym (placed-more q c.name.result.now k names (stands c.loop-position.places q) at) ∙ c.loop-position.invariant q

pub returns : goal.returns
returns c = λ q.
    let names = kept_names c.args.components.now in
    let k = c.loop-position.position in
    let over : length names ≤ k = omega (arith, length-map c.args.components.now (λ (k : Component). k.definition.name), c.loop-position-test.false) in
    sym (placed-all q k names (stands c.loop-position.places q) over) ∙ c.loop-position.invariant q
