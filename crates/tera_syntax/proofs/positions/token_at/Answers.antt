use Rattle.tera_syntax_tokens.proofs.Order.{token_within}
use Rattle.tera_syntax.proofs.positions.token_at.Goals as goal

pub returns-then-token-start : goal.returns-then-token-start
returns-then-token-start c size from inside = token_within size from c.args.tokens.now c.loop-token.token-index _ c.loop-token-test.true inside
