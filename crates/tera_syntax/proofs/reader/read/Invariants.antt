use denote.Shadow.{shadow}
use denote.Text.{Utf8}
use Rattle.std.proofs.Common.{◌≡◌, ◌+◌, length}
use Rattle.tera_syntax_tokens.specs.Cut.{Knows, cut, pieces}
use Rattle.tera_syntax_tree.specs.Delimiters.{delimiters_of}
use Rattle.tera_syntax.specs.File as spec
use Rattle.tera_syntax.specs.View.{file_of}
use Rattle.tera_syntax.proofs.reader.read.Given as goal
use Rattle.tera_syntax_tree.specs.Depth.{max_tree_depth}

abbrev pub invariant-loop-rest : goal.invariant-loop-rest
invariant-loop-rest l = record {
  utf8 : shadow (Utf8 l.rest);
  position : l.at + length l.rest ≡ length l.source;
  known : Knows (delimiters_of l.delimiters) l.rest l.opening;
  so_far : spec.spelled max_tree_depth (pieces (delimiters_of l.delimiters) l.source) ≡ spec.file_read_on max_tree_depth (file_of l.file) (cut (delimiters_of l.delimiters) l.trims 0 l.at l.rest);
}

abbrev pub decreases-loop-rest : goal.decreases-loop-rest
decreases-loop-rest l = length l.rest
