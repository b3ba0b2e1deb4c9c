use Rattle.std.proofs.Common.{◌-◌, length}
use Rattle.tera_syntax_tokens.specs.Cut.{ends_raw}
use Rattle.tera_syntax_tree.specs.Delimiters.{delimiters_of}
use Rattle.tera_syntax_tokens.proofs.Positions.{NoneBefore}
use Rattle.tera_syntax_tokens.proofs.raw.next_endraw.Given as goal

abbrev pub invariant-loop-i : goal.invariant-loop-i
invariant-loop-i l = NoneBefore (ends_raw (delimiters_of l.delimiters)) l.i l.text

abbrev pub decreases-loop-i : goal.decreases-loop-i
decreases-loop-i l = length l.text - l.i
