use Rattle.std.proofs.Common.{sym, ◌∙◌, arith}
use Rattle.tera_machine.proofs.Heights.{height_least, none_low}
use Rattle.tera_machine.proofs.open_things.is_low.Goals as goal

pub returns-then-number-clause-there : goal.returns-then-number-clause-there
returns-then-number-clause-there g c = λ _.
    (let least = height_least g.T.Numbered.number_of c.args.number c.loop-height.height c.at_height.result.now c.args.things.now c.at_height.ensures (sym c.number.ensures ∙ c.if-number.true) in
    omega (arith, c.loop-height.auto.height, least))

pub returns-clause-not_there : goal.returns-clause-not_there
returns-clause-not_there g c = λ _ low.
    none_low g.T.Numbered.number_of c.args.number c.args.start c.loop-height.height c.args.things.now c.loop-height.invariant (omega (arith, c.loop-height-test.false, c.min-height-end.ensures, c.len.ensures.count)) low
