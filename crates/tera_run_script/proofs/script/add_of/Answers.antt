use Rattle.std.proofs.Common.{sym, ap, ◌∙◌}
use Rattle.tera_run_script.specs.Script.{add_of}
use Rattle.tera_run_script.specs.Words.{words_after}
use Rattle.tera_run_script.proofs.Fields.{add_of-words}
use Rattle.tera_run_script.proofs.script.add_of.Goals as goal

pub returns-in-Some : goal.returns-in-Some
returns-in-Some c = sym (ap (λ fields. add_of (words_after fields)) c.in-Some.is ∙ add_of-words c.in-Some.field-0.now)
