use Rattle.std.proofs.Common.{◌<◌, length, sym, ◌∙◌, arith}
use Rattle.tera_code.specs.Packed.{tables_of}
use Rattle.tera_code.proofs.Noted.{none_noted, one_noted, none_more}
use Rattle.tera_code.proofs.settling.settle.Goals as goal
use Rattle.tera_code.proofs.settling.settle.Goals.{then-has_notes, else-has_notes}

pub loop-at-init : goal.loop-at-init
loop-at-init c = none_noted (tables_of c.args.tables.now) c.args.code.now c.requires

pub loop-at-preserved : goal.loop-at-preserved
loop-at-preserved c =
    let s = tables_of c.args.tables.now in
    let from = c.args.code.now in
    let ps = c.loop-at.code in
    let n = c.loop-at.invariant in
    let there : c.loop-at.at < length ps = omega (arith, n.long) in
    elim c.if-has_notes.branch [
      | then-has_notes w ↦ rw w.code-is (one_noted s from c.loop-at.at ps n _ there w.with_notes-noted.ensures.within w.with_notes-noted.ensures.same w.with_notes-noted.ensures.notes)
      | else-has_notes w ↦ rw w.code-is (none_more s from c.loop-at.at ps n there (sym c.has_notes.ensures ∙ w.if-has_notes.false))
    ]
