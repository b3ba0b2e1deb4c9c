use Rattle.std.proofs.Common.{ap, ◌∙◌, arith}
use Rattle.tera_meaning.specs.Accepted.{includes_of}
use Rattle.tera_registry.specs.Kept.{entry_of, seen}
use Rattle.tera_registry.proofs.Kept.{entry-at-position, length-entries}
use Rattle.tera_registry.proofs.Filled.{rows-push, more-edges}
use Rattle.tera_registry.proofs.include_edges.edges.Goals as goal

pub loop-template-preserved : goal.loop-template-preserved
loop-template-preserved c =
    let ts = c.args.templates.now in
    let r = seen ts c.args.prefixes.now in
    let at = entry-at-position ts c.loop-template.template-index c.template-item.result c.loop-template-test.true c.template-item.is in
    rw (c.in_ok-push.ensures.items, rows-push) (more-edges r _ _ _ _ c.loop-template.invariant at (c.in_ok-included_positions.ensures.those ∙ ap (λ t. includes_of r (entry_of t)) c.deref.ensures) (λ k lt. omega (arith, length-entries ts, c.in_ok-included_positions.ensures.there k lt)))
