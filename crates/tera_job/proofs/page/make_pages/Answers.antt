use Rattle.std.proofs.Common.{rules, ◌≡◌, ◌<◌, ◌+◌, ◌++◌, ◌∷◌, [], Err, List, length, map, sym, ap, ◌∙◌, subst, arith, take}
use Rattle.std.proofs.lemmas.List.{length-map, map-append}
use Rattle.std.proofs.Math.ListN.{get_or}
use Rattle.std.specs.Prelude.{string_bytes}
use Rattle.tera.specs.Site.{Name}
use Rattle.tera.specs.Registry.{registry_of}
use Rattle.tera_job.specs.Pages.{pages_seen, page_seen, AreMade}
use Rattle.tera_job.proofs.Making.{error_at, made_at, name_at}
use Rattle.tera_job.proofs.page.make_pages.Goals as goal

pub returns-in_err-make_page : goal.returns-in_err-make_page
returns-in_err-make_page g c =
    let names = c.args.names.now in
    let i = c.loop-name.name-index in
    let name = c.name-item.result in
    let ns : List Name = map string_bytes names in
    let given : c.from_residual-in_err-make_page.result ≡ Err c.in_err-make_page.field-0.0 = search rules in
    let there : get_or names i name ≡ name = cc in
    let at : get_or ns i [] ≡ c.as_str.result.now = name_at names i name c.loop-name-test.true there ∙ sym c.as_str.ensures.value in
    let within : i < length ns = omega (arith, length-map names string_bytes) in
    rw given (error_at (registry_of g.O.Objects.engine c.args.engine.now) c.args.context.now ns i c.as_str.result.now (pages_seen c.loop-name.pages.items) c.in_err-make_page.field-0.0 within at c.loop-name.invariant c.in_err-make_page.ensures)

pub loop-name-preserved : goal.loop-name-preserved
loop-name-preserved g c =
    let names = c.args.names.now in
    let i = c.loop-name.name-index in
    let name = c.name-item.result in
    let ns : List Name = map string_bytes names in
    let page = c.in_ok-make_page.field-0 in
    let there : get_or names i name ≡ name = cc in
    let at : get_or ns i [] ≡ c.as_str.result.now = name_at names i name c.loop-name-test.true there ∙ sym c.as_str.ensures.value in
    let within : i < length ns = omega (arith, length-map names string_bytes) in
    let more : pages_seen (c.loop-name.pages.items ++ page ∷ []) ≡ pages_seen c.loop-name.pages.items ++ page_seen page ∷ [] = map-append page_seen c.loop-name.pages.items (page ∷ []) in
    let pushed : pages_seen c.push.new.self.items ≡ pages_seen (c.loop-name.pages.items ++ page ∷ []) = ap pages_seen c.in_ok-push.ensures.items in
    subst (λ ps. AreMade (registry_of g.O.Objects.engine c.args.engine.now) c.args.context.now (take (i + 1) ns) ps) (sym (pushed ∙ more))
    (made_at (registry_of g.O.Objects.engine c.args.engine.now) c.args.context.now ns i c.as_str.result.now (pages_seen c.loop-name.pages.items) (page_seen page) within at c.loop-name.invariant c.in_ok-make_page.ensures)
