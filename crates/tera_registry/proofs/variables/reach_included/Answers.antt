use Rattle.std.proofs.Common.{◌≡◌, length, Some, refl, ap, ◌∙◌, arith, filter_map, slice_get}
use Rattle.std.proofs.lemmas.List.{drop_all}
use Rattle.std.proofs.lemmas.Option.{slice_get_read}
use Rattle.tera_registry.specs.Kept.{entries_of, entry_of, seen}
use Rattle.tera_registry.specs.OutsideCalls.{included_by}
use Rattle.tera_registry.proofs.Element.{element}
use Rattle.tera_registry.proofs.Needing.{tree-includes}
use Rattle.tera_registry.proofs.Rows.{drop-at}
use Rattle.tera_registry.proofs.Reaching.{reaching-begins, reaching-none, reaching-some, reaching-ends}
use Rattle.tera_registry.proofs.variables.reach_included.Goals as goal
use Rattle.tera_registry.proofs.variables.reach_included.Goals.{in-Some+in_ok-reach, in_default}

pub loop-need-init : goal.loop-need-init
loop-need-init c = reaching-begins _ _ _ _ _ c.requires.reached

pub reach-requires : goal.reach-requires
reach-requires c = omega (arith, c.loop-need.invariant.reached.as_many, c.in-Some.ensures.1)

pub loop-need-preserved : goal.loop-need-preserved
loop-need-preserved c =
    let i = c.loop-need.invariant in
    let es = entries_of c.args.templates.now in
    let h = included_by (seen c.args.templates.now c.args.prefixes.now) in
    let at : slice_get c.args.of.now.needs.items c.loop-need.need-index ≡ Some c.need-item.result =
    rw (← c.deref-need-items.ensures.value) (slice_get_read c.deref-need-items.result.now (length c.deref-need-items.result.now) c.loop-need.need-index c.need-item.result refl c.loop-need-test.true c.need-item.is) in
    let left = drop-at c.args.of.now.needs.items c.loop-need.need-index c.need-item.result at in
    elim c.match-included_position.branch [
      | in-Some+in_ok-reach w ↦
          (let e = element es w.in-Some.position w.in-Some.ensures.1 in
          rw (w.reached-is, w.marks-is) (reaching-some es h _ _ _ _ e.0 _ _ _ _ _ left (w.in-Some.ensures.0 ∙ e.1) (w.in_ok-reach.ensures es e.0 i.reached e.1) i))
      | in_default w ↦
          rw (w.reached-is, w.marks-is) (reaching-none es h _ _ _ _ _ _ _ left (w.in_default.ensures) i)
    ]

pub returns : goal.returns
returns c =
    let xs = c.args.of.now.needs.items in
    let r = seen c.args.templates.now c.args.prefixes.now in
    let es = entries_of c.args.templates.now in
    let h = included_by r in
    let those = ap (filter_map h) c.args.of.now.needing ∙ tree-includes r (entry_of c.args.of.now).1.tree in
    rw (← those) (reaching-ends es h xs _ _ _ _ (drop_all c.loop-need.need-index xs (omega (arith, c.loop-need-test.false, ap length c.deref-need-items.ensures.value))) c.loop-need.invariant)
