use Rattle.std.proofs.Common.{◌≤◌, length, arith}
use Rattle.tera_registry.proofs.Needing.{needs-on, needs-end}
use Rattle.tera_registry.proofs.outside_calls.add_outside_calls.Goals as goal

pub loop-position-preserved : goal.loop-position-preserved
loop-position-preserved c =
    needs-on c.args.chunk.now.code c.loop-position.position _ c.loop-position.needs.items _ (omega (arith, c.len-position-end.ensures, c.loop-position-test.true)) c.in_ok-add_outside_call.ensures.ok c.loop-position.invariant

pub returns-clause-ok : goal.returns-clause-ok
returns-clause-ok c =
    let over : length c.args.chunk.now.code ≤ c.loop-position.position = omega (arith, c.len-position-end.ensures, c.loop-position-test.false) in
    needs-end c.args.chunk.now.code c.loop-position.position c.loop-position.needs.items _ over c.loop-position.invariant
