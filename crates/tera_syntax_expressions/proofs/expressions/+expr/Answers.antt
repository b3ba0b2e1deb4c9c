use Rattle.tera_syntax_tokens.specs.Takes.{input}
use Rattle.std.proofs.Common.{◌-◌, arith}
use Rattle.tera_syntax_expressions.specs.Expressions.{expr}
use Rattle.tera_syntax_expressions.proofs.Rounds.{expr_more, expr_none, refuses}
use Rattle.tera_syntax_expressions.proofs.expressions.+expr.Goals as goal

pub returns-then-limit-eq0 : goal.returns-then-limit-eq0
returns-then-limit-eq0 t c = refuses c.refuse.result c.refuse.ensures (expr_none c.args.limit c.args.floor (input c.args.tokens.now) (omega arith))

pub returns-then-stands_alone : goal.returns-then-stands_alone
returns-then-stands_alone t c =
    rw (expr_more c.args.limit c.args.floor (input c.args.tokens.now) (omega arith), c.stands_alone.ensures c.if-stands_alone.true c.args.limit (expr (c.args.limit - 1))) c.leaf.ensures

pub returns-else-stands_alone : goal.returns-else-stands_alone
returns-else-stands_alone t c = rw (expr_more c.args.limit c.args.floor (input c.args.tokens.now) (omega arith)) c.level.ensures
