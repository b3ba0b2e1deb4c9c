use Rattle.std.proofs.Common.{◌≡◌, ◌+◌, drop, false, option_map}
use Rattle.tera_syntax_tokens.specs.Token.{quoted}
use Rattle.tera_syntax_tokens.proofs.token.quoted_len.Given as goal

abbrev pub invariant-loop-i : goal.invariant-loop-i
invariant-loop-i l = quoted l.quote false l.text ≡ option_map (λ n. l.i + n) (quoted l.quote l.escaped (drop l.i l.text))
