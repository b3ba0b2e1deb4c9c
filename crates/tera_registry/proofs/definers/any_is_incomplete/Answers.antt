use Rattle.std.proofs.Common.{refl, sym, ap, arith, length}
use Rattle.std.proofs.lemmas.Map.Keys.{any_passes_from_place}
use Rattle.tera_meaning.specs.Accepted.{lacks_something}
use Rattle.tera_registry.proofs.Kept.{length-entries}
use Rattle.tera_registry.proofs.Ancestors.{entry-there}
use Rattle.tera_registry.proofs.Absent.{none-yet-more, none-yet-all}
use Rattle.tera_registry.proofs.definers.any_is_incomplete.Goals as goal

pub is_incomplete-requires : goal.is_incomplete-requires
is_incomplete-requires g c = λ κs within.
    (within, (c.requires.1.1.0, (c.loop-position-test.true, (c.requires.1.1.1.0, (refl, c.requires.1.1.1.1)))))

pub returns-then-is_incomplete : goal.returns-then-is_incomplete
returns-then-is_incomplete g c =
    let r = g.registry in
    let t = entry-there r c.args.templates.now c.args.ups.now c.loop-position.position c.requires.1.1.0 c.loop-position-test.true in
    sym (any_passes_from_place (lacks_something r) _ c.loop-position.position t.0 t.1 (sym (c.if-is_incomplete.ensures t.0 t.1)))

pub loop-position-preserved : goal.loop-position-preserved
loop-position-preserved g c =
    let r = g.registry in
    let t = entry-there r c.args.templates.now c.args.ups.now c.loop-position.position c.requires.1.1.0 c.loop-position-test.true in
    none-yet-more (lacks_something r) _ c.loop-position.position t.0 c.loop-position.invariant t.1 (sym (c.if-is_incomplete.ensures t.0 t.1))

pub returns : goal.returns
returns g c =
    sym (none-yet-all (lacks_something g.registry) _ c.loop-position.position c.loop-position.invariant (omega (arith, ap length c.requires.1.1.0.same, length-entries c.args.templates.now, c.loop-position-test.false)))
