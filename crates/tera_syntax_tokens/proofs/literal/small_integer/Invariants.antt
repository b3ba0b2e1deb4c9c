use Rattle.std.proofs.Common.{◌≡◌, drop}
use Rattle.tera_syntax_tokens.specs.Literal.{number_from}
use Rattle.tera_syntax_tokens.proofs.literal.small_integer.Given as goal

abbrev pub invariant-loop-b : goal.invariant-loop-b
invariant-loop-b l = number_from 0 l.digits ≡ number_from l.number (drop l.b-index l.digits)
