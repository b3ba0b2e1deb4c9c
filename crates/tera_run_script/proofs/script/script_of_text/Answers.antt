use Rattle.std.proofs.Common.{◌<◌, length, sym, ap, ◌∙◌, arith, rules, ◌∷◌, [], ◌+◌, Some, append-nil}
use Rattle.std.proofs.lemmas.List.{map-append}
use Rattle.std.proofs.lemmas.Bool.Decides.{nat_tests}
use Rattle.tera_run_script.specs.Lines.{lines_of}
use Rattle.tera_run_script.specs.Act.{acts_of, act_of}
use Rattle.tera_run_script.specs.Script.{Script, script_of_lines}
use Rattle.tera_run_script.proofs.Scripts.{onto, onto-command, script_of_lines-line}
use Rattle.tera_run_script.proofs.script.script_of_text.Goals as goal

pub loop-line-preserved : goal.loop-line-preserved
loop-line-preserved c =
    let some : 0 < length c.in-Some.line.now = grind (arith, nat_tests, c.is_empty.ensures, c.if-is_empty.false) in
    let found = rw c.in-Some-2.is at c.in_ok-found.ensures in
    let next = c.in-Some-2.found in
    record {
      is_text = search rules;
      read =
          onto-command (script_of_lines 1 0 (lines_of c.args.text.now)) (acts_of c.loop-line.commands.items) (act_of next.command) c.loop-line.number next.lines c.in-Some.line.now (lines_of c.in-Some.after.now) (lines_of next.rest.now)
          (c.loop-line.invariant.read ∙ ap (λ lines. onto (acts_of c.loop-line.commands.items) (script_of_lines c.loop-line.number 0 lines)) c.in-Some.ensures.lines)
          some found.is found.follows
          ∙ ap (λ acts. onto acts (script_of_lines (c.loop-line.number + (1 + next.lines)) 0 (lines_of next.rest.now)))
          (sym (ap acts_of c.in_ok-push.ensures.items ∙ map-append act_of c.loop-line.commands.items (next.command ∷ [])));
      room = omega (arith, c.loop-line.invariant.room, c.in-Some.ensures.shorter, found.room);
    }

-- a line that is no command ends the script
pub returns-in_default-2 : goal.returns-in_default-2
returns-in_default-2 c =
    let some : 0 < length c.in-Some.line.now = grind (arith, nat_tests, c.is_empty.ensures, c.if-is_empty.false) in
    let acts = acts_of c.loop-line.commands.items in
    let number = c.loop-line.number in
    let after = lines_of c.in-Some.after.now in
    sym (c.loop-line.invariant.read
    ∙ ap (λ lines. onto acts (script_of_lines number 0 lines)) c.in-Some.ensures.lines
    ∙ ap (onto acts) (script_of_lines-line number c.in-Some.line.now after some ∙ (rw c.in_default-2.is at c.in_ok-found.ensures) number (λ taken. script_of_lines (number + 1) taken after))
    ∙ ap (λ done. let s : Script = record { acts = done; unreadable = Some number } in s) (append-nil acts))
