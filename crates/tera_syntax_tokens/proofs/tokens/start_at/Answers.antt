use Rattle.tera_syntax_tokens.proofs.Literals.{start_is}
use Rattle.tera_syntax_tokens.proofs.tokens.start_at.Goals as goal

pub returns-in-Some : goal.returns-in-Some
returns-in-Some c =
    let h = c.in-Some.ensures.lookup in
    start_is c.args.tokens.now c.args.at c.in-Some.token.now h.3.0 h.1
