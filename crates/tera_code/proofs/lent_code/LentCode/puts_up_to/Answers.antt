use Rattle.std.proofs.Common.{arith, sym, ◌∙◌}
use Rattle.tera_code.proofs.Parts.{puts_first}
use Rattle.tera_code.proofs.lent_code.LentCode.puts_up_to.Goals as goal

pub loop-left-preserved : goal.loop-left-preserved
loop-left-preserved c =
    let first = puts_first c.args.name.now c.args.self.now c.loop-left.left c.loop-left.position c.in_ok-lend.field-0 c.loop-left-test.true c.in_ok-lend.ensures.found (sym c.if-not-puts.ensures) in
    (sym first ∙ c.loop-left.invariant.0, omega (arith, c.loop-left-test.true, c.loop-left.invariant.1))
