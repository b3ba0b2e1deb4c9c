use Rattle.std.proofs.Common.{◌≡◌, ◌+◌, drop}
use Rattle.tera_syntax_tokens.specs.Bytes.{begins, position}
use Rattle.tera_syntax_tokens.proofs.bytes.position.Given as goal

abbrev pub invariant-loop-i : goal.invariant-loop-i
invariant-loop-i l = position (begins l.word) l.bytes ≡ l.i + position (begins l.word) (drop l.i l.bytes)
