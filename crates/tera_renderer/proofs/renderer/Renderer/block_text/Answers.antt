use Rattle.std.proofs.Common.{rules, ◌≡◌, [], ◌∷◌, Ok, Err, sym, subst, string_bytes}
use Rattle.tera.specs.Rendering.{BlockByName}
use Rattle.tera.specs.Answer.{GivesOneOf}
use Rattle.tera_data.specs.Contexts.{context_in}
use Rattle.tera_renderer.specs.Calls.{Reads}
use Rattle.tera_renderer.specs.Held.{held_by}
use Rattle.tera_renderer.specs.Meanings.{BlockText}
use Rattle.tera_renderer.proofs.Readings.{read_first, no_data, with_data}
use Rattle.tera_renderer.proofs.renderer.Renderer.block_text.Goals as goal

pub returns-in_err-context : goal.returns-in_err-context
returns-in_err-context g c =
    let held = held_by g.O.Objects.engine c.args.self.now in
    let name = c.args.name.now in
    let block = c.args.block.now in
    let json = c.args.json.now in
    let there = context_in held.floats json in
    let Meant = BlockText name block json held in
    let e = c.in_err-context.field-0.0 in
    let is : c.from_residual-in_err-context.result ≡ Err e = search rules in
    let read : Reads (json ∷ []) (λ a. a) (Err e) (λ r. there ≡ r) = subst (λ r. Reads (json ∷ []) (λ a. a) r (λ r. there ≡ r)) c.in_err-context.was c.context.ensures in
    subst (λ r. Reads (name ∷ block ∷ json ∷ []) string_bytes r Meant) (sym is)
    (read_first string_bytes Meant name (block ∷ json ∷ []) (Err e) c.in_ok-name.ensures.ok.1
    (read_first string_bytes Meant block (json ∷ []) (Err e) c.in_ok-block.ensures.ok.1 (no_data json there (BlockByName held.registry name block) string_bytes e read)))

pub returns : goal.returns
returns g c =
    let held = held_by g.O.Objects.engine c.args.self.now in
    let name = c.args.name.now in
    let block = c.args.block.now in
    let json = c.args.json.now in
    let there = context_in held.floats json in
    let Meant = BlockText name block json held in
    let a = c.in_ok-context.context in
    let r = c.render_block.result in
    let read : Reads (json ∷ []) (λ a. a) (Ok a) (λ r. there ≡ r) = subst (λ r. Reads (json ∷ []) (λ a. a) r (λ r. there ≡ r)) c.in_ok-context.was c.context.ensures in
    let named : GivesOneOf string_bytes r (BlockByName held.registry name c.in_ok-block.block.now a) = subst (λ n. GivesOneOf string_bytes r (BlockByName held.registry n c.in_ok-block.block.now a)) c.in_ok-name.ensures.ok.0 c.render_block.ensures in
    let renders : GivesOneOf string_bytes r (BlockByName held.registry name block a) = subst (λ n. GivesOneOf string_bytes r (BlockByName held.registry name n a)) c.in_ok-block.ensures.ok.0 named in
    read_first string_bytes Meant name (block ∷ json ∷ []) r c.in_ok-name.ensures.ok.1
    (read_first string_bytes Meant block (json ∷ []) r c.in_ok-block.ensures.ok.1 (with_data json there (BlockByName held.registry name block) string_bytes a r read renders))
