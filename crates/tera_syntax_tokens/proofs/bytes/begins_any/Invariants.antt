use Rattle.std.proofs.Common.{◌≡◌, drop}
use Rattle.tera_syntax_tokens.specs.Bytes.{begins}
use Rattle.tera_syntax_tokens.proofs.bytes.begins_any.Given as goal

abbrev pub invariant-loop-i : goal.invariant-loop-i
invariant-loop-i l = begins l.word l.bytes ≡ begins (drop l.i l.word) (drop l.i l.bytes)
