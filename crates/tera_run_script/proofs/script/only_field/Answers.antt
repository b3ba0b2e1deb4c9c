use Rattle.std.proofs.Common.{sym, ap, ◌∙◌, ◌∷◌}
use Rattle.tera_run_script.specs.Script.{only_field}
use Rattle.tera_run_script.specs.Words.{words_after}
use Rattle.tera_run_script.proofs.Fields.{only_field-words}
use Rattle.tera_run_script.proofs.script.only_field.Goals as goal

pub returns-in-Some : goal.returns-in-Some
returns-in-Some c =
    sym (ap (λ fields. only_field (words_after fields)) c.in_ok-fields.was
    ∙ ap only_field (c.first_word.ensures ∙ ap (λ more. c.first_word.result.0.now ∷ words_after more) c.in-Some.is)
    ∙ only_field-words c.first_word.result.0.now c.in-Some.field-0.now)
