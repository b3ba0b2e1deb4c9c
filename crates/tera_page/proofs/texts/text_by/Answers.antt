use Rattle.std.proofs.Common.{arith, ap, map, ◌∙◌, string_bytes}
use Rattle.tera_page.specs.Questions.{lines}
use Rattle.tera_page.proofs.Asked.{asked_for_components, asked_for_names}
use Rattle.tera_page.proofs.texts.text_by.Goals as goal

pub returns-in_ok-lines_of_set-in-2 : goal.returns-in_ok-lines_of_set-in-2
returns-in_ok-lines_of_set-in-2 c =
    asked_for_names string_bytes c.args.question.now c.args.name.now c.args.json.now _ _ c.in_ok-lines_of_set-in-2.field-0
    c.in-2.is c.in_ok-lines_of_set-in-2.ensures c.in_ok-names-in-2.ensures

pub returns-in_ok-lines_of-in_default : goal.returns-in_ok-lines_of-in_default
returns-in_ok-lines_of-in_default c =
    let spelt = c.in_ok-lines_of-in_default.ensures ∙ ap (λ names. lines (map string_bytes names)) c.as_slice.ensures.value in
    asked_for_components string_bytes c.args.question.now c.args.name.now c.args.json.now _ _ c.in_ok-lines_of-in_default.field-0
    (λ is. absurd (omega arith)) (λ is. absurd (omega arith)) (λ is. absurd (omega arith)) spelt c.in_ok-names-in_default.ensures.names
