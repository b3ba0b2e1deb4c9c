use Rattle.std.proofs.Common.{◌≡◌, length, Some, refl, ap, ◌∙◌, arith, filter_map, slice_get}
use Rattle.std.proofs.lemmas.Option.{slice_get_read}
use Rattle.tera_registry.specs.Kept.{entries_of, entry_of, seen}
use Rattle.tera_registry.specs.OutsideCalls.{included_by}
use Rattle.tera_registry.proofs.Element.{element}
use Rattle.tera_registry.proofs.Kept.{length-entries}
use Rattle.tera_registry.proofs.Needing.{tree-includes}
use Rattle.tera_registry.proofs.Filled.{fill-none, fill-some, fill-ends, all_at-push, AreThere-push}
use Rattle.tera_registry.proofs.include_edges.included_positions.Goals as goal
use Rattle.tera_registry.proofs.include_edges.included_positions.Goals.{in-Some+in_ok-push, in_default}

pub loop-need-preserved : goal.loop-need-preserved
loop-need-preserved c =
    let i = c.loop-need.invariant in
    let ts = c.args.templates.now in
    let es = entries_of ts in
    let h = included_by (seen ts c.args.prefixes.now) in
    let at : slice_get c.args.of.now.needs.items c.loop-need.need-index ≡ Some c.need-item.result =
    rw (← c.deref-need-items.ensures.value) (slice_get_read c.deref-need-items.result.now (length c.deref-need-items.result.now) c.loop-need.need-index c.need-item.result refl c.loop-need-test.true c.need-item.is) in
    elim c.match-included_position.branch [
      | in-Some+in_ok-push w ↦
          (let e = element es w.in-Some.position w.in-Some.ensures.1 in
          record {
            there = rw (w.positions-is, w.in_ok-push.ensures.items) (AreThere-push _ _ _ i.there (omega (arith, length-entries ts, w.in-Some.ensures.1)));
            filled = rw (w.positions-is, w.in_ok-push.ensures.items, all_at-push es c.loop-need.positions.items w.in-Some.position e.0 e.1) (fill-some h _ _ _ _ e.0 i.filled at (w.in-Some.ensures.0 ∙ e.1));
          })
      | in_default w ↦ record {
        there = rw w.positions-is i.there;
        filled = rw w.positions-is (fill-none h _ _ _ _ i.filled at (w.in_default.ensures));
      }
    ]

pub returns-clause-those : goal.returns-clause-those
returns-clause-those c =
    let i = c.loop-need.invariant in
    let h = included_by (seen c.args.templates.now c.args.prefixes.now) in
    fill-ends _ _ _ _ i.filled (omega (arith, ap length c.deref-need-items.ensures.value)) ∙ ap (filter_map h) c.args.of.now.needing ∙ tree-includes (seen c.args.templates.now c.args.prefixes.now) (entry_of c.args.of.now).1.tree
