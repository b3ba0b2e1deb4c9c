use Rattle.std.proofs.Common.{◌≡◌, arith, drop, true, false}
use Rattle.tera_syntax_tokens.specs.Bytes.{begins}
use Rattle.tera_syntax_tokens.proofs.Positions.{position_here, position_later}
use Rattle.tera_syntax_tokens.proofs.bytes.position.Goals as goal

pub returns-then-begins : goal.returns-then-begins
returns-then-begins c =
    let h : begins c.args.word.now (drop c.loop-i.i c.args.bytes.now) ≡ true = cc in
    let e = position_here (begins c.args.word.now) c.loop-i.i c.args.bytes.now c.loop-i-test.true h in
    omega (arith, c.loop-i.invariant)

pub loop-i-preserved : goal.loop-i-preserved
loop-i-preserved c =
    let h : begins c.args.word.now (drop c.loop-i.i c.args.bytes.now) ≡ false = cc in
    let e = position_later (begins c.args.word.now) c.loop-i.i c.args.bytes.now c.loop-i-test.true h in
    omega (arith, c.loop-i.invariant)
