use Rattle.std.proofs.Common.{arith, ◌∙◌, ap}
use Rattle.std.proofs.lemmas.Int.{ints, to_z-of_z}
use Rattle.std.specs.Prelude.{unsigned_abs}
use mir.Syntax.{w128}
use Rattle.std.proofs.lemmas.Option.{IfSome_then}
use Rattle.tera_built_ins.proofs.Ranges.{room-above, room-below}
use Rattle.tera_built_ins.proofs.functions.range_length.Goals as goal

-- src/functions.rt
pub returns-then-step-lt0-2-clause-fits : goal.returns-then-step-lt0-2-clause-fits
returns-then-step-lt0-2-clause-fits c = IfSome_then c.strides.result c.strides.ensures.below
    (λ count below. room-below c.args.start c.args.end c.args.step _ _ count c.ranges.start c.ranges.end (omega (arith, ints)) (c.unsigned_abs.ensures.value ∙ ap unsigned_abs (to_z-of_z w128 c.args.step c.ranges.step)) (omega (arith, ints)) below)

pub returns-then-start-end-2-clause-fits : goal.returns-then-start-end-2-clause-fits
returns-then-start-end-2-clause-fits c = IfSome_then c.strides-then-start-end-2.result c.strides-then-start-end-2.ensures.below
    (λ count below. room-above c.args.start c.args.end c.args.step _ _ count c.ranges.start c.ranges.end (omega (arith, ints)) (c.unsigned_abs-then-start-end-2.ensures.value ∙ ap unsigned_abs (to_z-of_z w128 c.args.step c.ranges.step)) (omega (arith, ints)) below)
