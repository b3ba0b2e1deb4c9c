use Rattle.std.proofs.Common.{◌≡◌, [], ◌∷◌, Ok, Err, Some, length, sym, ap, subst, ◌∙◌, string_bytes}
use Rattle.std.proofs.lemmas.List.{length-map}
use Rattle.std.specs.Prelude.{String}
use Rattle.std.specs.Global.{Global}
use Rattle.tera.specs.Prelude.{pairs_of}
use Rattle.tera_renderer.specs.Calls.{Reads}
use Rattle.tera_renderer.specs.Outcomes.{copied, site_of}
use Rattle.tera_page.specs.Answers.{place_in}
use Rattle.tera_page.specs.Questions.{MayAnswer}
use Rattle.tera_page.specs.Templates.{templates_in}
use Rattle.tera_page.proofs.Ends.{answers_error, answers_text, answers_unread}
use Rattle.tera_page.proofs.export.tera_page.Goals as goal

pub returns-in-Ok-text_for : goal.returns-in-Ok-text_for
returns-in-Ok-text_for c =
    let q = c.args.question.now in
    let sizes = c.args.sizes.now in
    let bytes = c.args.bytes.now in
    let name = c.args.name.now in
    let json = c.args.json.now in
    let lent = c.as_slice-templates.result.now in
    let all = templates_in sizes bytes in
    let text = c.in-Ok-text_for.text in
    let same : pairs_of lent ≡ all = ap pairs_of c.as_slice-templates.ensures.value ∙ c.in-Ok.ensures.ok.0 in
    let sized : length lent ≡ length all = sym (length-map lent _) ∙ ap length same in
    let answered : Reads (name ∷ json ∷ []) string_bytes (Ok text) (MayAnswer q (pairs_of lent) name json) = subst (λ r. Reads (name ∷ json ∷ []) string_bytes r (MayAnswer q (pairs_of lent) name json)) c.in-Ok-text_for.is c.text_for.ensures in
    answers_text q sizes bytes name json c.args.room.now c.answer_with.new.room c.answer_with.result text c.in-Ok.ensures.ok.1
    (subst (λ t. Reads (name ∷ json ∷ []) string_bytes (Ok text) (MayAnswer q t name json)) same answered)
    (c.answer_with.ensures.copied ∙ ap (λ t. copied (Some t) c.args.room.now) c.as_str.ensures.value)
    c.answer_with.ensures.kind c.answer_with.ensures.place (c.answer_with.ensures.template ∙ sized)

pub returns-in-Ok : goal.returns-in-Ok
returns-in-Ok c =
    let q = c.args.question.now in
    let sizes = c.args.sizes.now in
    let bytes = c.args.bytes.now in
    let name = c.args.name.now in
    let json = c.args.json.now in
    let lent = c.as_slice-templates.result.now in
    let all = templates_in sizes bytes in
    let e = c.in-Err-text_for.error in
    let same : pairs_of lent ≡ all = ap pairs_of c.as_slice-templates.ensures.value ∙ c.in-Ok.ensures.ok.0 in
    let answered : Reads {X = String Global} (name ∷ json ∷ []) string_bytes (Err e) (MayAnswer q (pairs_of lent) name json) = subst (λ r. Reads {X = String Global} (name ∷ json ∷ []) string_bytes r (MayAnswer q (pairs_of lent) name json)) c.in-Err-text_for.is c.text_for.ensures in
    answers_error q sizes bytes name json c.args.room.now c.answer_of_error.new.room c.answer_of_error.result e c.in-Ok.ensures.ok.1
    (subst (λ t. Reads {X = String Global} (name ∷ json ∷ []) string_bytes (Err e) (MayAnswer q t name json)) same answered)
    c.answer_of_error.auto.room c.answer_of_error.ensures.kind c.answer_of_error.ensures.place
    (c.answer_of_error.ensures.template ∙ c.place_of_error-template.ensures ∙ ap (λ t. place_in t (site_of e)) same)

pub returns : goal.returns
returns c =
    let sizes = c.args.sizes.now in
    answers_unread c.args.question.now sizes c.args.bytes.now c.args.name.now c.args.json.now c.args.room.now c.answer_of_error-in-Err.new.room c.answer_of_error-in-Err.result
    c.in-Err.error c.in-Err.ensures.told c.answer_of_error-in-Err.auto.room
    c.answer_of_error-in-Err.ensures.kind c.answer_of_error-in-Err.ensures.place c.answer_of_error-in-Err.ensures.template
