use Rattle.std.proofs.Common.{◌≡◌, ◌-◌, drop, []}
use Rattle.tera_syntax_tokens.specs.Input.{left, starts}
use Rattle.tera_syntax_tokens.specs.Takes.{input}
use Rattle.tera_syntax_tokens.specs.Token.{tokens_of}
use Rattle.tera_syntax_expressions.specs.Expressions.{opened}
use Rattle.tera_syntax_expressions.proofs.climb.take_parentheses.Given as goal

abbrev pub invariant-loop-round : goal.invariant-loop-round
invariant-loop-round l = (l.count ≡ l._round) × (tokens_of l.tokens.ahead.now ≡ drop l.count (tokens_of l.fn.tokens.ahead.now)) × (opened (left (input l.fn.tokens)) [] (input l.fn.tokens)
    ≡ opened (l._round-end - l._round) (starts (tokens_of l.fn.tokens.ahead.now) l.count) (input l.tokens))
