use Rattle.std.proofs.Common.{◌≡◌, ◌++◌, [], map, length, append-nil, sym, ap, ◌∙◌, arith}
use Rattle.std.specs.Vec.Iter.{into_iter_items}
use Rattle.std.proofs.lemmas.List.{nil_from_length}
use Rattle.tera_code.specs.Blocks.{block_of}
use Rattle.tera_registry.specs.Components.{kept_block}
use Rattle.tera_registry.proofs.Tabled.{one-kept}
use Rattle.tera_registry.proofs.batch.kept_blocks.Goals as goal

pub loop-block-preserved : goal.loop-block-preserved
loop-block-preserved c = record {
  whole = one-kept c.loop-block.kept.items _ c.in-Some.block (into_iter_items c.loop-block.block-iterator) _ _ c.in_ok-keep.ensures.ok c.in-Some.ensures.steps.0 c.loop-block.invariant.whole;
  size = omega (arith, c.in-Some.ensures.steps.1, ap length c.in-Some.ensures.steps.0, c.loop-block.invariant.size);
}

pub returns-clause-ok : goal.returns-clause-ok
returns-clause-ok c =
    let none : into_iter_items c.loop-block.block-iterator ≡ [] = nil_from_length _ (omega (arith, c.in-None.ensures.steps.0, c.loop-block.invariant.size)) in
    sym (append-nil _) ∙ ap (λ l. map kept_block c.loop-block.kept.items ++ map block_of l) (sym none) ∙ c.loop-block.invariant.whole
