use Rattle.std.proofs.Common.{◌≡◌, ◌+◌, ◌≤◌, length}
use denote.Text.{Utf8}
use denote.Shadow.{shadow}
use Rattle.tera_run_script.specs.Act.{acts_of}
use Rattle.tera_run_script.specs.Lines.{lines_of}
use Rattle.tera_run_script.specs.Script.{script_of_lines}
use Rattle.tera_run_script.proofs.Scripts.{onto}
use Rattle.tera_run_script.proofs.script.script_of_text.Given as goal

abbrev pub invariant-loop-line : goal.invariant-loop-line
invariant-loop-line l = record {
  is_text : shadow (Utf8 l.rest);
  read : script_of_lines 1 0 (lines_of l.text) ≡ onto (acts_of l.commands.items) (script_of_lines l.number 0 (lines_of l.rest));
  room : l.number + length l.rest ≤ 1 + length l.text;
}

abbrev pub decreases-loop-line : goal.decreases-loop-line
decreases-loop-line l = length l.rest
