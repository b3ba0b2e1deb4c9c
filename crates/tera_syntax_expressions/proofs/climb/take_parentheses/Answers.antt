use Rattle.std.proofs.Common.{rules, arith, ◌≡◌, ◌∙◌, true}
use Rattle.std.proofs.lemmas.Grind.{common_steps}
use Rattle.tera_syntax_tokens.specs.declared.token.Kind.TheVariants.{LeftParenthesis}
use Rattle.tera_syntax_tokens.specs.Input.{starts, same, kind}
use Rattle.tera_syntax_tokens.specs.Takes.{input}
use Rattle.tera_syntax_tokens.specs.Token.{tokens_of}
use Rattle.tera_syntax_expressions.specs.Expressions.{opened}
use Rattle.tera_syntax_expressions.proofs.Alone.{not_open}
use Rattle.tera_syntax_expressions.proofs.Rounds.{tested-not, one_more, opened_round}
use Rattle.tera_syntax_expressions.proofs.climb.take_parentheses.Goals as goal

pub loop-round-preserved : goal.loop-round-preserved
loop-round-preserved c =
    let inv = c.loop-round.invariant in
    let e = one_more (λ n. opened n (starts (tokens_of c.args.tokens.now.ahead.now) c.loop-round.count) (input c.loop-round.tokens)) _ c.loop-round._round c.loop-round-test.true inv.2 in
    let s : same LeftParenthesis (kind (input c.loop-round.tokens)) ≡ true = first_of (search rules, grind (arith, common_steps)) in
    let p = opened_round _ c.loop-round.count (tokens_of c.args.tokens.now.ahead.now) (input c.loop-round.tokens) (input c.take.new.self) e inv.1 s c.take.ensures in
    (omega arith, p.0, p.1)

pub returns-then-ne : goal.returns-then-ne
returns-then-ne c = c.loop-round.invariant.2 ∙ not_open _ _ _ (tested-not (same LeftParenthesis) c.kind.ensures c.ne.ensures c.if-ne.true)
