use Rattle.std.proofs.Common.{rules, ◌≡◌, [], ◌∷◌, Ok, Err, sym, subst, string_bytes}
use Rattle.tera.specs.Rendering.{ByName}
use Rattle.tera.specs.Answer.{GivesOneOf}
use Rattle.tera_data.specs.Contexts.{context_in}
use Rattle.tera_renderer.specs.Calls.{Reads}
use Rattle.tera_renderer.specs.Held.{held_by}
use Rattle.tera_renderer.specs.Meanings.{TemplateText}
use Rattle.tera_renderer.proofs.Readings.{read_first, no_data, with_data}
use Rattle.tera_renderer.proofs.renderer.Renderer.template_text.Goals as goal

pub returns-in_err-context : goal.returns-in_err-context
returns-in_err-context g c =
    let held = held_by g.O.Objects.engine c.args.self.now in
    let name = c.args.name.now in
    let json = c.args.json.now in
    let there = context_in held.floats json in
    let Meant = TemplateText name json held in
    let e = c.in_err-context.field-0.0 in
    let is : c.from_residual-in_err-context.result ≡ Err e = search rules in
    let read : Reads (json ∷ []) (λ a. a) (Err e) (λ r. there ≡ r) = subst (λ r. Reads (json ∷ []) (λ a. a) r (λ r. there ≡ r)) c.in_err-context.was c.context.ensures in
    subst (λ r. Reads (name ∷ json ∷ []) string_bytes r Meant) (sym is)
    (read_first string_bytes Meant name (json ∷ []) (Err e) c.in_ok-name.ensures.ok.1 (no_data json there (ByName held.registry name) string_bytes e read))

pub returns : goal.returns
returns g c =
    let held = held_by g.O.Objects.engine c.args.self.now in
    let name = c.args.name.now in
    let json = c.args.json.now in
    let there = context_in held.floats json in
    let a = c.in_ok-context.context in
    let read : Reads (json ∷ []) (λ a. a) (Ok a) (λ r. there ≡ r) = subst (λ r. Reads (json ∷ []) (λ a. a) r (λ r. there ≡ r)) c.in_ok-context.was c.context.ensures in
    let renders : GivesOneOf string_bytes c.render.result (ByName held.registry name a) = subst (λ n. GivesOneOf string_bytes c.render.result (ByName held.registry n a)) c.in_ok-name.ensures.ok.0 c.render.ensures in
    read_first string_bytes (TemplateText name json held) name (json ∷ []) c.render.result c.in_ok-name.ensures.ok.1
    (with_data json there (ByName held.registry name) string_bytes a c.render.result read renders)
