use Rattle.std.proofs.Common.{◌≡◌, ◌<◌, length, Some, refl, sym, ◌∙◌, arith, slice_get}
use Rattle.std.proofs.lemmas.Option.{slice_get_read}
use Rattle.tera_registry.specs.Kept.{entry_of, entries_of, seen}
use Rattle.tera_registry.proofs.Kept.{entry-among, length-entries}
use Rattle.tera_registry.proofs.Reaching.{none-reached, there-at, closing-begins, closing-on, closing-ends, few}
use Rattle.tera_registry.proofs.variables.closure.Goals as goal

pub loop-next-init : goal.loop-next-init
loop-next-init c =
    let ts = c.args.templates.now in
    let items = c.in_ok-all_marks.ensures.items_if_clones_equal (λ t h. h) in
    closing-begins (seen ts c.args.prefixes.now) c.args.from.now _ _ _ c.new-reached.ensures.items (c.in_ok-reach_all.ensures (entries_of ts) (none-reached (entries_of ts) _ _ (length ts) c.new-reached.ensures.items (c.as_mut_slice-marks.ensures.value ∙ items) (sym (length-entries ts))))

pub loop-next-preserved : goal.loop-next-preserved
loop-next-preserved c =
    let ts = c.args.templates.now in
    let r = seen ts c.args.prefixes.now in
    let ps = c.loop-next.reached.items in
    let position = c.index-position.result.now in
    let left : c.loop-next.next < length ps = omega (arith, c.if-next-len.false) in
    let p_at : slice_get ps c.loop-next.next ≡ Some position = slice_get_read ps (length ps) c.loop-next.next position refl left c.index-position.ensures in
    let lt = there-at ps (length (entries_of ts)) c.loop-next.next position c.loop-next.invariant.reached.there p_at in
    let at = entry-among r ts position _ _ refl (omega (arith, lt, length-entries ts)) c.index-templates-position.is c.deref-template.ensures in
    closing-on r c.args.from.now c.loop-next.next position (entry_of c.deref-template.result.now) ps _ _ _ p_at at c.in_ok-reach_included.ensures c.loop-next.invariant

pub returns-then-next-len : goal.returns-then-next-len
returns-then-next-len c =
    closing-ends _ _ c.loop-next.next _ _ (omega (arith, c.if-next-len.true)) c.loop-next.invariant

pub returns : goal.returns
returns c =
    let ts = c.args.templates.now in
    closing-ends _ _ c.loop-next.next _ _ (omega (arith, few (entries_of ts) _ _ c.loop-next.invariant.reached, length-entries ts, c.loop-next-test.false)) c.loop-next.invariant
