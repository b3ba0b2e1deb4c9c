-- How a function that takes tokens stands to its definition.
use Rattle.std.specs.Prelude.{◌≡◌, Some, Result, Ok, Err}
use Rattle.tera_syntax_tokens.specs.declared.refusal.Refusal.{Refusal}
use Rattle.tera_syntax_tokens.specs.declared.tokens.Tokens.{Tokens}
use Rattle.tera_syntax_tokens.specs.Answers.{Refuses}
use Rattle.tera_syntax_tokens.specs.Token.{tokens_of}
use Rattle.tera_syntax_tokens.specs.Input.{Input, Parsed}

abbrev pub input : Tokens → Input
input t = record { ahead = tokens_of t.ahead.now; last = t.last; in_loop = t.in_loop }

-- What was read, seen by view, and the tokens that are left are the outcome that is meant.
abbrev pub Takes : {X Y : Type 0} → (X → Y) → Parsed Y → Result X Refusal → Tokens → Type 0
Takes view meant (Ok x) new = meant ≡ Some (view x, input new)
Takes view meant (Err refusal) new = Refuses meant refusal
