use Rattle.std.proofs.Common.{false, sym, ◌∙◌}
use Rattle.tera_syntax_tokens.specs.Token.{quoted}
use Rattle.tera_syntax_tokens.proofs.Sizes.{quote_closes, quote_goes_on, quote_ends}
use Rattle.tera_syntax_tokens.proofs.token.quoted_len.Goals as goal

pub returns-then-is_free-clause-value : goal.returns-then-is_free-clause-value
returns-then-is_free-clause-value c =
    quote_closes c.args.quote c.loop-i.escaped c.loop-i.i c.args.text.now (quoted c.args.quote false c.args.text.now) c.loop-i-test.true (sym c.is_free.ensures ∙ c.if-is_free.true) c.loop-i.invariant

pub loop-i-preserved : goal.loop-i-preserved
loop-i-preserved c =
    quote_goes_on c.args.quote c.loop-i.escaped c.is_free-escaped.result c.loop-i.i c.args.text.now (quoted c.args.quote false c.args.text.now) c.loop-i-test.true (sym c.is_free.ensures ∙ c.if-is_free.false)
    c.is_free-escaped.ensures c.loop-i.invariant

pub returns-clause-value : goal.returns-clause-value
returns-clause-value c = quote_ends c.args.quote c.loop-i.escaped c.loop-i.i c.args.text.now (quoted c.args.quote false c.args.text.now) c.loop-i-test.false c.loop-i.invariant
