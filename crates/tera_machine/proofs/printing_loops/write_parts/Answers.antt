use Rattle.std.proofs.Common.{arith, refl, sym, ap, ◌∙◌, ◌≡◌, ◌+◌, ◌-◌}
use Rattle.tera_code.specs.Printing.{puts_up_to}
use Rattle.tera_machine.specs.Flow.{On}
use Rattle.tera_machine.specs.Did.{Goes}
use Rattle.tera_machine.specs.Printing.{saying}
use Rattle.tera_machine.proofs.Parts.{part_puts, part_missing, stands_before, breaks_before, leads_before}
use Rattle.tera_machine.proofs.Reaching.{counted_so, file_there, found_there}
use Rattle.tera_machine.proofs.printing_loops.write_parts.Goals as goal

pub returns-in_default-clause-ok : goal.returns-in_default-clause-ok
returns-in_default-clause-ok g c = λ s name d is p l b.
    absurd (part_missing name s.cursor.chunk.now.code (c.args.end - c.loop-position.position) c.loop-position.position c.args.end (omega (arith, c.loop-position-test.true)) (found_there b.continues _ c.in_default.ensures.found) (c.loop-position.invariant.comes s name d is p l b).0)

pub returns-in-Err-clause-err : goal.returns-in-Err-clause-err
returns-in-Err-clause-err g c = λ s name d is p l b.
    let reached = c.loop-position.invariant.comes s name d is p l b in
    let found = found_there b.continues _ c.in-Some.ensures.found in
    let part = part_puts name s.cursor.chunk.now.code (c.args.end - c.loop-position.position) c.loop-position.position c.args.end c.in-Some.part (omega (arith, c.loop-position-test.true)) found reached.0 in
    (stands_before reached.1 found (counted_so c.in-Some.ensures.count) refl, breaks_before reached.1 found (counted_so {at = c.loop-position.position} c.in-Some.ensures.count) c.in-Err.error (c.in-Err.ensures.err s.here name (c.loop-position.position + 1) d (sym (file_there b.continues c.file.ensures), is.1, is.2) part.0 l))

pub loop-position-preserved : goal.loop-position-preserved
loop-position-preserved g c = record {
  within = omega (arith, c.loop-position-test.true);
  below = c.in-Ok.ensures.below ∙ c.loop-position.invariant.below;
  comes = λ s name d is p l b.
      let reached = c.loop-position.invariant.comes s name d is p l b in
      let found = found_there b.continues _ c.in-Some.ensures.found in
      let part = part_puts name s.cursor.chunk.now.code (c.args.end - c.loop-position.position) c.loop-position.position c.args.end c.in-Some.part (omega (arith, c.loop-position-test.true)) found reached.0 in
      let left : c.args.end - (c.loop-position.position + 1) ≡ c.args.end - c.loop-position.position - 1 = omega arith in
      (ap (λ k. puts_up_to name s.cursor.chunk.now.code k (c.loop-position.position + 1)) left ∙ part.1, leads_before reached.1 found (counted_so c.in-Some.ensures.count) (Goes (saying c.write_part.new.texts.now d) On) (c.loop-position.position + 1) (c.in-Ok.ensures.ok s.here name (c.loop-position.position + 1) d (sym (file_there b.continues c.file.ensures), is.1, is.2) part.0 l) refl);
}
