use Rattle.std.proofs.Common.{rules, ◌≡◌, ◌∷◌, [], Err, string_bytes}
use Rattle.tera.specs.Prelude.{pairs_of}
use Rattle.tera_page.specs.Questions.{MayAnswer}
use Rattle.tera_page.proofs.Asked.{may_answer_by, may_refuse}
use Rattle.tera_renderer.proofs.Readings.{read_all, read_first}
use Rattle.tera_page.proofs.texts.text_for.Goals as goal

pub returns-in_err-add_raw_templates : goal.returns-in_err-add_raw_templates
returns-in_err-add_raw_templates c =
    let q = c.args.question.now in
    let templates = pairs_of c.args.templates.now in
    let name = c.args.name.now in
    let json = c.args.json.now in
    let Meant = MayAnswer q templates name json in
    let e = c.in_err-add_raw_templates.field-0.0 in
    let is : c.from_residual-in_err-add_raw_templates.result ≡ Err e = search rules in
    rw is
    (read_first string_bytes Meant name (json ∷ []) (Err e) c.in_ok-name.ensures.ok.1
    (read_first string_bytes Meant json [] (Err e) c.in_ok-json.ensures.ok.1
    (read_all string_bytes Meant (Err e) (may_refuse q templates name json _ c.in_ok-engine.ensures e c.in_err-add_raw_templates.ensures.0))))

pub returns : goal.returns
returns c =
    let q = c.args.question.now in
    let templates = pairs_of c.args.templates.now in
    let name = c.args.name.now in
    let json = c.args.json.now in
    let Meant = MayAnswer q templates name json in
    let answer = c.text_by.result in
    read_first string_bytes Meant name (json ∷ []) answer c.in_ok-name.ensures.ok.1
    (read_first string_bytes Meant json [] answer c.in_ok-json.ensures.ok.1
    (read_all string_bytes Meant answer
    (may_answer_by q templates name json _ c.in_ok-engine.ensures string_bytes _ answer _ _ c.in_ok-name.ensures.ok.0 c.in_ok-json.ensures.ok.0 c.in_ok-add_raw_templates.ensures c.text_by.ensures)))
