use Rattle.std.proofs.Common.{◌-◌, length, string_bytes}
use Rattle.std.specs.Str.{IsCharBoundary}
use Rattle.tera_syntax_tokens.proofs.Literals.{Wrote}
use Rattle.tera_syntax_tokens.proofs.literal.unescape.Given as goal

abbrev pub invariant-loop-from : goal.invariant-loop-from
invariant-loop-from l = record {
  boundary : IsCharBoundary l.text l.from;
  so_far : Wrote (string_bytes l.all) l.from l.text;
}

abbrev pub decreases-loop-from : goal.decreases-loop-from
decreases-loop-from l = length l.text - l.from
