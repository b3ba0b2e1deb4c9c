use Rattle.std.proofs.Common.{◌-◌, length}
use Rattle.tera_syntax_tokens.specs.Cut.{opens}
use Rattle.tera_syntax_tree.specs.Delimiters.{delimiters_of}
use Rattle.tera_syntax_tokens.proofs.Positions.{NoneBefore}
use Rattle.tera_syntax_tokens.proofs.cut.opening_ahead.Given as goal

abbrev pub invariant-loop-i : goal.invariant-loop-i
invariant-loop-i l = NoneBefore (opens (delimiters_of l.delimiters)) l.i l.text

abbrev pub decreases-loop-i : goal.decreases-loop-i
decreases-loop-i l = length l.text - l.i
