use Rattle.std.proofs.Common.{sym, ap, ◌∙◌, ◌∷◌}
use Rattle.tera_run_script.specs.Script.{two_fields}
use Rattle.tera_run_script.specs.Words.{words_after}
use Rattle.tera_run_script.proofs.Fields.{two_fields-words}
use Rattle.tera_run_script.proofs.script.two_fields.Goals as goal

pub returns-in-Some : goal.returns-in-Some
returns-in-Some c =
    sym (ap (λ fields. two_fields (words_after fields)) c.in_ok-fields.was
    ∙ ap two_fields (c.first_word.ensures
    ∙ ap (λ more. c.first_word.result.0.now ∷ words_after more) c.in_ok-rest.was
    ∙ ap (λ more. c.first_word.result.0.now ∷ more) (c.first_word-2.ensures ∙ ap (λ more. c.first_word-2.result.0.now ∷ words_after more) c.in-Some.is))
    ∙ two_fields-words c.first_word.result.0.now c.first_word-2.result.0.now c.in-Some.field-0.now)
