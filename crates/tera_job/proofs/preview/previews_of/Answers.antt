use Rattle.std.proofs.Common.{◌≡◌, ◌+◌, ◌<◌, [], List, length, map, sym, ◌∙◌, subst, arith, take}
use Rattle.std.proofs.lemmas.List.{length-map}
use Rattle.std.proofs.Math.ListN.{get_or}
use Rattle.std.specs.Prelude.{string_bytes}
use Rattle.tera.specs.Site.{Name}
use Rattle.tera.specs.Registry.{registry_of}
use Rattle.tera_job.specs.Previews.{PreviewsOf}
use Rattle.tera_job.proofs.Making.{name_at}
use Rattle.tera_job.proofs.Previewing.{previews_at}
use Rattle.tera_job.proofs.preview.previews_of.Goals as goal

pub loop-name-preserved : goal.loop-name-preserved
loop-name-preserved g c =
    let names = c.args.names.now in
    let i = c.loop-name.name-index in
    let name = c.name-item.result in
    let ns : List Name = map string_bytes names in
    let r = registry_of g.O.Objects.engine c.args.engine.now in
    let made = c.in_ok-make_preview.ensures.ok in
    let there : get_or names i name ≡ name = cc in
    let at : get_or ns i [] ≡ c.as_str.result.now = name_at names i name c.loop-name-test.true there ∙ sym c.as_str.ensures.value in
    let within : i < length ns = omega (arith, length-map names string_bytes) in
    subst (PreviewsOf r c.args.context.now c.args.autoescape (take (i + 1) ns)) (sym c.in_ok-push.ensures.items)
    (previews_at r c.args.context.now c.args.autoescape ns i c.as_str.result.now c.loop-name.all.items c.in_ok-make_preview.field-0 within at c.loop-name.invariant made.0 made.1)
