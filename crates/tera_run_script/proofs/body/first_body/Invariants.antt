use Rattle.std.proofs.Common.{length}
use denote.Text.{Utf8}
use denote.Shadow.{shadow}
use Rattle.tera_run_script.specs.Body.{Passed}
use Rattle.tera_run_script.proofs.body.first_body.Given as goal

abbrev pub invariant-loop-line : goal.invariant-loop-line
invariant-loop-line l = record { is_text : shadow (Utf8 l.after); passed : Passed l.text l.after l.lines }

abbrev pub decreases-loop-line : goal.decreases-loop-line
decreases-loop-line l = length l.after
