use Rattle.std.proofs.Common.{◌≡◌, ◌≤◌, ◌+◌, ◌-◌, length, drop}
use Rattle.tera_syntax_tokens.specs.Token.{tokens_of}
use Rattle.tera_syntax_tokens.specs.Inside.{inside, prefixed}
use Rattle.tera_syntax_tokens.proofs.tag_tokens.cut_inside.Given as goal

abbrev pub invariant-loop-i : goal.invariant-loop-i
invariant-loop-i l = record {
  within : l.i ≤ length l.text;
  few : l.opened ≤ l.i;
  so_far : inside l.end 0 0 l.at l.text ≡ prefixed (tokens_of l.tokens.items) (inside l.end l.opened 0 (l.at + l.i) (drop l.i l.text));
}

abbrev pub decreases-loop-i : goal.decreases-loop-i
decreases-loop-i l = length l.text - l.i
