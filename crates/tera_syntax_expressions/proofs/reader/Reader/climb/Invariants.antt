use Rattle.std.proofs.Common.{◌≡◌, ◌-◌}
use Rattle.tera_syntax_tokens.specs.Input.{starts}
use Rattle.tera_syntax_tokens.specs.Takes.{input}
use Rattle.tera_syntax_expressions.specs.Parts.{deep_of}
use Rattle.tera_syntax_tokens.specs.Token.{tokens_of}
use Rattle.tera_syntax_expressions.specs.Expressions.{climb, expr}
use Rattle.tera_syntax_expressions.proofs.reader.Reader.climb.Given as goal

abbrev pub invariant-loop-round : goal.invariant-loop-round
invariant-loop-round g l = climb l.self.limit (expr l.self.below) l.fn.rounds (starts (tokens_of l.ahead) l.fn.opens) l.fn.floor l.fn.have l.fn.start (deep_of l.fn.x) (input l.fn.tokens)
    ≡ climb l.self.limit (expr l.self.below) (l.fn.rounds - l._round) (starts (tokens_of l.ahead) l.opens) l.floor l.have l.start (deep_of l.x) (input l.tokens)
