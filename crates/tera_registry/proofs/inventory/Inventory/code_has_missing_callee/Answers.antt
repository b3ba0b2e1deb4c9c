use Rattle.std.proofs.Common.{◌≤◌, length, sym, arith}
use Rattle.tera_registry.specs.Known.{known_in}
use Rattle.tera_registry.proofs.Lacking.{lacks-nothing-more, code_lacks-at, code_lacks-none}
use Rattle.tera_registry.proofs.inventory.Inventory.code_has_missing_callee.Goals as goal

pub returns-then-is_missing_at : goal.returns-then-is_missing_at
returns-then-is_missing_at g c =
    sym (code_lacks-at (known_in g.O.Objects.engine c.args.self.now) c.args.chunk.now.code c.loop-position.position (sym c.if-is_missing_at.ensures))

pub loop-position-preserved : goal.loop-position-preserved
loop-position-preserved g c =
    lacks-nothing-more (known_in g.O.Objects.engine c.args.self.now) c.args.chunk.now.code c.loop-position.position c.loop-position.invariant (sym c.if-is_missing_at.ensures)

pub returns : goal.returns
returns g c =
    let over : length c.args.chunk.now.code ≤ c.loop-position.position = omega (arith, c.loop-position-test.false, c.len-position-end.ensures) in
    sym (code_lacks-none (known_in g.O.Objects.engine c.args.self.now) c.args.chunk.now.code c.loop-position.position over c.loop-position.invariant)
