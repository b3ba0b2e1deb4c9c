use Rattle.std.proofs.Common.{arith, rules, ◌∙◌, ◌+◌}
use Rattle.std.proofs.lemmas.Int.{to_z-of_z}
use mir.Syntax.{w128}
use Rattle.tera_built_ins.proofs.Ranges.{stepping-more, number-further}
use Rattle.tera_built_ins.proofs.functions.range_items.Goals as goal

-- src/functions.rt
pub loop-position-preserved : goal.loop-position-preserved
loop-position-preserved c = record {
  items = stepping-more _ _ _ _ _ _ c.loop-position.invariant.items (c.loop-position.invariant.number (omega arith)) (search rules);
  number = λ more. to_z-of_z w128 c.saturating_add-number.result (search rules)
      ∙ number-further _ _ _ _ c.loop-position._position (rw (to_z-of_z w128 c.args.start c.ranges.start, to_z-of_z w128 c.args.step c.ranges.step) (c.requires (c.loop-position._position + 1) more)) (c.loop-position.invariant.number (omega arith)) c.saturating_add-number.ensures;
}
