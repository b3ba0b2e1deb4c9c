use Rattle.std.proofs.Common.{◌≡◌, sym, ap, ◌∙◌, subst, IfOk, Some}
use Rattle.tera_run_script.specs.Act.{acts_of}
use Rattle.tera_run_script.specs.Lines.{lines_of}
use Rattle.tera_run_script.specs.Script.{Script, script_of_lines}
use Rattle.tera_run_script.specs.Seen.{script_seen}
use Rattle.tera_run_script.proofs.Scripts.{script_of-text, script_of-no_text}
use Rattle.tera_run_script.proofs.script.script_of.Goals as goal

pub returns-in-Ok : goal.returns-in-Ok
returns-in-Ok c =
    subst (λ read. IfOk c.script_of_text.result (λ script. script_seen script ≡ read))
    (ap (λ bytes. script_of_lines 1 0 (lines_of bytes)) c.in-Ok.ensures.cases.0 ∙ sym (script_of-text c.args.bytes.now c.in-Ok.ensures.cases.1))
    c.script_of_text.ensures

pub returns-in-Err : goal.returns-in-Err
returns-in-Err c =
    ap (λ commands. let s : Script = record { acts = acts_of commands; unreadable = Some 1 } in s) c.new.ensures.items
    ∙ sym (script_of-no_text c.args.bytes.now c.in-Err.ensures.cases.0)
