use Rattle.std.proofs.Common.{◌≡◌, ◌++◌, length, drop, false, string_bytes}
use Rattle.tera_filters.specs.Lines.{lines_of}
use Rattle.tera_filters.specs.LineMarks.{added_by}
use Rattle.tera_filters.proofs.lines.paragraphs_of.Given as goal

abbrev pub invariant-loop-line : goal.invariant-loop-line
invariant-loop-line l =
    string_bytes l.marked ++ added_by l.begun l.inside (drop (length l.yielded) (lines_of l.text)) ≡ added_by false false (lines_of l.text)
