use Rattle.std.proofs.Common.{◌≡◌, ◌+◌, ◌≤◌, Some, drop, length, map, sym, ap, ◌∙◌, arith, slice_get}
use Rattle.std.specs.Option.{option_or}
use Rattle.tera_registry.specs.declared.code.TemplateBlock.{TemplateBlock}
use Rattle.tera_registry.specs.Places.{stands, place_from}
use Rattle.tera_registry.proofs.Placing.{placed-more, placed-all, block-name-at, names-many}
use Rattle.tera_registry.proofs.places.block_places.Goals as goal

pub loop-position-preserved : goal.loop-position-preserved
loop-position-preserved c = λ q.
    let names = map (λ b. b.name) c.args.blocks.now in
    let k = c.loop-position.position in
    let at : slice_get names k ≡ Some c.as_str.result.now =
    block-name-at c.args.blocks.now k _ (omega (arith, c.loop-position-test.true)) c.index-blocks-position.is ∙ ap (λ (b : TemplateBlock). Some b.name) c.index-blocks-position.is ∙ ap Some (sym c.as_str.ensures) in
    ap (λ o. option_or o (place_from q (k + 1) (drop (k + 1) names))) (c.in_ok-note.ensures q) ∙ sym (placed-more q c.as_str.result.now k names (stands c.loop-position.places q) at) ∙ c.loop-position.invariant q

pub returns : goal.returns
returns c = λ q.
    let names = map (λ b. b.name) c.args.blocks.now in
    let k = c.loop-position.position in
    let over : length names ≤ k = omega (arith, names-many c.args.blocks.now, c.loop-position-test.false) in
    sym (placed-all q k names (stands c.loop-position.places q) over) ∙ c.loop-position.invariant q
