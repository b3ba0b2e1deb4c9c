use Rattle.std.proofs.Common.{arith, refl, subst, ◌∙◌, ◌≡◌, ◌+◌, ◌∷◌, suc, drop, length}
use Rattle.tera_state.specs.Items.{unkeyed}
use Rattle.tera_code.proofs.Lengthened.{drop-here}
use Rattle.tera_machine.specs.Printing.{Turning, at_items, items_called, saying}
use Rattle.tera_machine.proofs.Parts.{parts_between, item_found, lacking_breaks, stands_before, turning_on, turning_over}
use Rattle.tera_machine.proofs.Reaching.{counted_so}
use Rattle.tera_machine.proofs.printing_loops.write_turns.Goals as goal

pub returns-in-Err-clause-err : goal.returns-in-Err-clause-err
returns-in-Err-clause-err g c = λ s name counts d is p some b.
    let vs = c.args.items.now in
    let begun = subst (λ left. Turning s c.loop-item.cursor c.args.start c.args.size (items_called name counts) (length (unkeyed vs)) c.loop-item.item-index left (saying c.loop-item.texts.now d)) (drop-here vs c.loop-item.item-index c.item-item.result c.loop-item-test.true c.item-item.is) (c.loop-item.invariant.comes s name counts d is p some b) in
    c.in-Err.ensures.err s name (at_items (items_called name counts) (length (unkeyed vs)) c.loop-item.item-index c.args.start c.args.size (c.item-item.result ∷ drop (c.loop-item.item-index + 1) vs) d) is (parts_between name s.cursor.chunk.now.code c.args.start c.args.size p.parts) (item_found name counts (length (unkeyed vs)) c.loop-item.item-index c.item-item.result s.here.around d.run.vars p.uncounted) begun

pub loop-item-preserved : goal.loop-item-preserved
loop-item-preserved g c = record {
  below = c.in-Ok.ensures.below ∙ c.loop-item.invariant.below;
  comes = λ s name counts d is p some b.
      let vs = c.args.items.now in
      let begun = subst (λ left. Turning s c.loop-item.cursor c.args.start c.args.size (items_called name counts) (length (unkeyed vs)) c.loop-item.item-index left (saying c.loop-item.texts.now d)) (drop-here vs c.loop-item.item-index c.item-item.result c.loop-item-test.true c.item-item.is) (c.loop-item.invariant.comes s name counts d is p some b) in
      let ended = c.in-Ok.ensures.ok s name (at_items (items_called name counts) (length (unkeyed vs)) c.loop-item.item-index c.args.start c.args.size (c.item-item.result ∷ drop (c.loop-item.item-index + 1) vs) d) is (parts_between name s.cursor.chunk.now.code c.args.start c.args.size p.parts) (item_found name counts (length (unkeyed vs)) c.loop-item.item-index c.item-item.result s.here.around d.run.vars p.uncounted) begun in
      let next : suc c.loop-item.item-index ≡ c.loop-item.item-index + 1 = omega arith in
      subst (λ j. Turning s (record c.write_parts.new.cursor { steps = record c.write_parts.new.cursor.steps { now = c.get.new.steps } }) c.args.start c.args.size (items_called name counts) (length (unkeyed vs)) j (drop (c.loop-item.item-index + 1) vs) (saying c.write_parts.new.texts.now d)) next (turning_on (items_called name counts) (length (unkeyed vs)) c.loop-item.item-index c.item-item.result (drop (c.loop-item.item-index + 1) vs) (saying c.write_parts.new.texts.now d) p.ends (counted_so c.in-Some.ensures.count) ended);
}

-- a run that is out of steps ends as one that lacks memory
pub returns-then-are_spent-clause-err : goal.returns-then-are_spent-clause-err
returns-then-are_spent-clause-err g c = λ s name counts d is p some b.
    let vs = c.args.items.now in
    let begun = subst (λ left. Turning s c.loop-item.cursor c.args.start c.args.size (items_called name counts) (length (unkeyed vs)) c.loop-item.item-index left (saying c.loop-item.texts.now d)) (drop-here vs c.loop-item.item-index c.item-item.result c.loop-item-test.true c.item-item.is) (c.loop-item.invariant.comes s name counts d is p some b) in
    let ended = c.in-Ok.ensures.ok s name (at_items (items_called name counts) (length (unkeyed vs)) c.loop-item.item-index c.args.start c.args.size (c.item-item.result ∷ drop (c.loop-item.item-index + 1) vs) d) is (parts_between name s.cursor.chunk.now.code c.args.start c.args.size p.parts) (item_found name counts (length (unkeyed vs)) c.loop-item.item-index c.item-item.result s.here.around d.run.vars p.uncounted) begun in
    (stands_before ended p.ends (counted_so c.in-Some.ensures.count) refl, lacking_breaks s (record c.write_parts.new.cursor { steps = record c.write_parts.new.cursor.steps { now = c.get.new.steps } }) c.out_of_memory.result c.out_of_memory.ensures)

pub returns-clause-ok : goal.returns-clause-ok
returns-clause-ok g c = λ s name counts d is p some b.
    turning_over (items_called name counts) (length (unkeyed c.args.items.now)) c.loop-item.item-index c.args.items.now (saying c.loop-item.texts.now d) (omega (arith, c.loop-item-test.false)) (c.loop-item.invariant.comes s name counts d is p some b)
