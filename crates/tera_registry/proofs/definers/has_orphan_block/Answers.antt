use Rattle.std.proofs.Common.{true, false, Some, None, sym, ap, ◌∙◌, arith, length}
use Rattle.std.proofs.lemmas.Map.Keys.{any_passes_from_place}
use Rattle.tera_meaning.specs.Accepted.{is_lost}
use Rattle.tera_registry.proofs.Kept.{entry-is}
use Rattle.tera_registry.proofs.Absent.{none-yet-more, none-yet-all, tops-of, top-at, child-of, lost-so, loses-of, loses-nothing}
use Rattle.tera_registry.proofs.definers.has_orphan_block.Goals as goal

pub returns-then-is_none : goal.returns-then-is_none
returns-then-is_none g c = λ t t_at.
    let same = entry-is g.registry c.args.templates.now c.args.of _ _ t c.requires.0.same c.requires.1 c.index-templates-of.is c.deref-template.ensures t_at in
    sym (loses-nothing g.registry t (child-of c.deref-template.result.now t false same c.if-is_none.ensures))

pub loop-name-preserved : goal.loop-name-preserved
loop-name-preserved g c = λ t t_at.
    let same = entry-is g.registry c.args.templates.now c.args.of _ _ t c.requires.0.same c.requires.1 c.index-templates-of.is c.deref-template.ensures t_at in
    let at = top-at c.deref-template.result.now t _ c.loop-name.name-index c.name-item.result same c.deref-name-items.ensures.value c.loop-name-test.true c.name-item.is in
    none-yet-more (is_lost g.registry t) _ _ _ (c.loop-name.invariant t t_at) at (lost-so g.registry t c.name-item.result (Some c.in-Some.field-0) (c.requires.0.grounded.each c.args.of t t_at) (rw c.as_name_ref-sought.ensures at (c.in-Some.ensures.number t t_at)))

pub returns-in-None : goal.returns-in-None
returns-in-None g c = λ t t_at.
    let same = entry-is g.registry c.args.templates.now c.args.of _ _ t c.requires.0.same c.requires.1 c.index-templates-of.is c.deref-template.ensures t_at in
    let at = top-at c.deref-template.result.now t _ c.loop-name.name-index c.name-item.result same c.deref-name-items.ensures.value c.loop-name-test.true c.name-item.is in
    let none = lost-so g.registry t c.name-item.result None (c.requires.0.grounded.each c.args.of t t_at) (rw c.as_name_ref-sought.ensures at (c.in-None.ensures.number t t_at)) in
    sym (loses-of g.registry t true (child-of c.deref-template.result.now t true same c.if-is_none.ensures) (any_passes_from_place (is_lost g.registry t) _ _ _ at none))

pub returns : goal.returns
returns g c = λ t t_at.
    let r = g.registry in
    let same = entry-is r c.args.templates.now c.args.of _ _ t c.requires.0.same c.requires.1 c.index-templates-of.is c.deref-template.ensures t_at in
    let tops = c.deref-name-items.ensures.value ∙ tops-of c.deref-template.result.now t same in
    let none = none-yet-all (is_lost r t) _ c.loop-name.name-index (c.loop-name.invariant t t_at) (omega (arith, ap length tops, c.loop-name-test.false)) in
    sym (loses-of r t false (child-of c.deref-template.result.now t true same c.if-is_none.ensures) none)
