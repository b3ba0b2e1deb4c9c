use Rattle.std.proofs.Common.{ℕ, ◌≡◌, ◌+◌, drop}
use Rattle.tera_syntax_tokens.specs.Inside.{inside}
use Rattle.tera_syntax_tokens.proofs.raw.blanks_len.Given as goal

abbrev pub invariant-loop-i : goal.invariant-loop-i
invariant-loop-i l = (at : ℕ) → inside l.end 0 0 at l.text ≡ inside l.end 0 0 (at + l.i) (drop l.i l.text)
