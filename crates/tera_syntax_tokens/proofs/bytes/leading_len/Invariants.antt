use Rattle.std.proofs.Common.{◌≡◌, ◌+◌, ℕ, Bool, drop}
use Rattle.tera_syntax_tokens.specs.Bytes.{leading}
use Rattle.tera_syntax_tokens.proofs.bytes.leading_len.Given as goal

abbrev pub invariant-loop-i : goal.invariant-loop-i
invariant-loop-i g l = (test : ℕ → Bool) → ((b : _) (answer : Bool) → goal.F-post g l.passes b answer → answer ≡ test b)
    → leading test l.text ≡ l.i + leading test (drop l.i l.text)
