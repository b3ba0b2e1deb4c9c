-- A command line with its body, as it is found in the text of a script.
use Rattle.std.specs.Prelude.{◌≡◌, ℕ, ◌+◌, ◌≤◌, length, drop}
use Rattle.tera.specs.Site.{Text}
use Rattle.tera_run_script.specs.Act.{act_of}
use Rattle.tera_run_script.specs.Lines.{lines_of}
use Rattle.tera_run_script.specs.Script.{Script, head_of, body_lines, with_command, before, stopped}
use Rattle.tera_run_script.specs.declared.script.FoundCommand.{FoundCommand}

-- the line and what follows it are no command
abbrev pub IsNone : Text → Text → Type 0
IsNone line after =
    (n : ℕ) (rest : ℕ → Script)
    → with_command n (head_of line) (body_lines (lines_of after)) rest ≡ stopped n

-- they are this command, and what follows it
pub record IsCommand (line after : Text) (found : FoundCommand) : Type 0 where
  pub is : (n : ℕ) (rest : ℕ → Script)
      → with_command n (head_of line) (body_lines (lines_of after)) rest
      ≡ before (act_of found.command) (rest found.lines)
  pub follows : lines_of found.rest.now ≡ drop found.lines (lines_of after)
  pub room : found.lines + length found.rest.now ≤ length after
