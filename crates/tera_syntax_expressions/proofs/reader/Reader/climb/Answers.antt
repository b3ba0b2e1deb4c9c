use Rattle.std.proofs.Common.{rules, arith}
use Rattle.std.proofs.lemmas.Grind.{common_steps}
use Rattle.tera_syntax_tokens.specs.Input.{starts, expect}
use Rattle.tera_syntax_tokens.specs.Takes.{input}
use Rattle.tera_syntax_expressions.specs.Parts.{deep_of}
use Rattle.tera_syntax_tokens.specs.Token.{tokens_of}
use Rattle.tera_syntax_expressions.specs.Expressions.{climb, expr}
use Rattle.tera_syntax_expressions.proofs.Rounds.{no_more, climb_once}
use Rattle.tera_syntax_expressions.proofs.reader.Reader.climb.Goals as goal

pub returns-in_err-operation : goal.returns-in_err-operation
unfolding expect
returns-in_err-operation g c =
    let e = climb_once c.args.self.now.limit (expr c.args.self.now.below) _ _ c.loop-round.opens c.args.floor c.loop-round.have c.loop-round.start (tokens_of c.args.ahead.now) (deep_of c.loop-round.x) (input c.loop-round.tokens) c.loop-round-test.true c.loop-round.invariant in
    first_of (search rules, grind (arith, common_steps))

pub returns-then-opens-eq0 : goal.returns-then-opens-eq0
unfolding expect
returns-then-opens-eq0 g c =
    let e = climb_once c.args.self.now.limit (expr c.args.self.now.below) _ _ c.loop-round.opens c.args.floor c.loop-round.have c.loop-round.start (tokens_of c.args.ahead.now) (deep_of c.loop-round.x) (input c.loop-round.tokens) c.loop-round-test.true c.loop-round.invariant in
    first_of (search rules, grind (arith, common_steps))

pub returns-in-Err : goal.returns-in-Err
unfolding expect
returns-in-Err g c =
    let e = climb_once c.args.self.now.limit (expr c.args.self.now.below) _ _ c.loop-round.opens c.args.floor c.loop-round.have c.loop-round.start (tokens_of c.args.ahead.now) (deep_of c.loop-round.x) (input c.loop-round.tokens) c.loop-round-test.true c.loop-round.invariant in
    first_of (search rules, grind (arith, common_steps))

pub loop-round-preserved : goal.loop-round-preserved
unfolding expect
loop-round-preserved g c =
    let e = climb_once c.args.self.now.limit (expr c.args.self.now.below) _ _ c.loop-round.opens c.args.floor c.loop-round.have c.loop-round.start (tokens_of c.args.ahead.now) (deep_of c.loop-round.x) (input c.loop-round.tokens) c.loop-round-test.true c.loop-round.invariant in
    first_of (search rules, grind (arith, common_steps))

pub returns : goal.returns
unfolding climb
returns g c =
    let e = no_more (λ n. climb c.args.self.now.limit (expr c.args.self.now.below) n (starts (tokens_of c.args.ahead.now) c.loop-round.opens) c.args.floor c.loop-round.have c.loop-round.start (deep_of c.loop-round.x) (input c.loop-round.tokens)) c.args.rounds c.loop-round._round c.loop-round-test.false c.loop-round.invariant in
    first_of (search rules, grind (arith, common_steps))
