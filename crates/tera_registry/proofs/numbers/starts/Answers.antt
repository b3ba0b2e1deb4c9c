use Rattle.std.proofs.Common.{◌≡◌, ◌+◌, Some, length, sym, ap, ◌∙◌, slice_get}
use Rattle.tera_registry.specs.Bodies.{codes_of}
use Rattle.tera_registry.specs.Kept.{entry_of, entries_of}
use Rattle.tera_registry.proofs.Kept.{entry-at-position}
use Rattle.tera_registry.proofs.Tabled.{more-starts, start-on}
use Rattle.tera_registry.proofs.numbers.starts.Goals as goal

pub loop-template-preserved : goal.loop-template-preserved
loop-template-preserved c =
    let ts = c.args.templates.now in
    let es = entries_of ts in
    let i = c.loop-template.template-index in
    let t = entry_of c.deref.result.now in
    let inv = c.loop-template.invariant in
    let at : slice_get es i ≡ Some t = entry-at-position ts i c.template-item.result c.loop-template-test.true c.template-item.is ∙ ap (λ u. Some (entry_of u)) (sym c.deref.ensures) in
    record {
      starts = rw c.in_ok-push.ensures.items (more-starts es c.loop-template.starts.items c.loop-template.number i inv.starts inv.number);
      number = c.in_ok-number.ensures ∙ ap (λ n. n + length (codes_of t)) inv.number ∙ sym (start-on es i t at);
    }
