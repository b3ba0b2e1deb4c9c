use Rattle.std.proofs.Common.{◌≤◌, length, arith}
use Rattle.tera_registry.proofs.Taking.{taken-on, taken-end}
use Rattle.tera_registry.proofs.code.takes.Goals as goal

pub loop-position-preserved : goal.loop-position-preserved
loop-position-preserved c =
    taken-on c.args.chunk.now.code c.loop-position.position _ c.loop-position.found.items _ (omega (arith, c.len-position-end.ensures, c.loop-position-test.true)) c.in_ok-add_take.ensures.ok c.loop-position.invariant

pub returns-clause-ok : goal.returns-clause-ok
returns-clause-ok c =
    let over : length c.args.chunk.now.code ≤ c.loop-position.position = omega (arith, c.len-position-end.ensures, c.loop-position-test.false) in
    taken-end c.args.chunk.now.code c.loop-position.position c.loop-position.found.items _ over c.loop-position.invariant
