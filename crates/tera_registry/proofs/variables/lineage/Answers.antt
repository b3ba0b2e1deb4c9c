use Rattle.std.proofs.Common.{refl, arith}
use Rattle.tera_registry.specs.Kept.{entry_of, seen}
use Rattle.tera_registry.proofs.Filled.{AreThere-push}
use Rattle.tera_registry.proofs.Kept.{entry-among, length-entries}
use Rattle.tera_registry.proofs.Ancestors.{next-ancestors, fewer, not-missing}
use Rattle.tera_registry.proofs.Above.{passed, passed-last}
use Rattle.tera_registry.proofs.variables.lineage.Goals as goal

pub up-smaller : goal.up-smaller
up-smaller c =
    let r = seen c.args.templates.now c.args.prefixes.now in
    let u = entry_of c.deref-template.result.now in
    let here = entry-among r c.args.templates.now c.up.last _ _ refl c.up.invariant.there c.index-templates-last.is c.deref-template.ensures in
    fewer r u c.up.last c.in-At.next here (c.requires.grounded.each c.up.last u here) c.in-At.ensures

pub up-preserved : goal.up-preserved
up-preserved c =
    let r = seen c.args.templates.now c.args.prefixes.now in
    let u = entry_of c.deref-template.result.now in
    let here = entry-among r c.args.templates.now c.up.last _ _ refl c.up.invariant.there c.index-templates-last.is c.deref-template.ensures in
    record {
      there = omega (arith, c.in-At.ensures.2.1, length-entries c.args.templates.now);
      inside = rw c.in_ok-push.ensures.items (AreThere-push _ _ _ c.up.invariant.inside c.up.invariant.there);
      so_far = λ t v t_at v_at.
          rw c.in_ok-push.ensures.items (passed r c.up.positions.items c.up.last t u v here (next-ancestors r u v c.in-At.next (c.requires.grounded.each c.up.last u here) c.in-At.ensures v_at) (c.up.invariant.so_far t u t_at here));
    }

pub returns-in-None-clause-those : goal.returns-in-None-clause-those
returns-in-None-clause-those c =
    let r = seen c.args.templates.now c.args.prefixes.now in
    let u = entry_of c.deref-template.result.now in
    let here = entry-among r c.args.templates.now c.up.last _ _ refl c.up.invariant.there c.index-templates-last.is c.deref-template.ensures in
    λ t at. rw c.in_ok-push.ensures.items (passed-last r c.up.positions.items c.up.last t u here c.in-None.ensures (c.up.invariant.so_far t u at here))

pub returns-in-None-clause-there : goal.returns-in-None-clause-there
returns-in-None-clause-there c =
    rw c.in_ok-push.ensures.items (AreThere-push _ _ _ c.up.invariant.inside c.up.invariant.there)

pub returns-in-Missing-clause-those : goal.returns-in-Missing-clause-those
returns-in-Missing-clause-those c =
    let r = seen c.args.templates.now c.args.prefixes.now in
    let u = entry_of c.deref-template.result.now in
    let here = entry-among r c.args.templates.now c.up.last _ _ refl c.up.invariant.there c.index-templates-last.is c.deref-template.ensures in
    λ t at. absurd (not-missing r u c.in-Missing.ensures.0 (c.requires.grounded.each c.up.last u here) c.in-Missing.ensures.1 c.in-Missing.ensures.2)

pub returns-in-Missing-clause-there : goal.returns-in-Missing-clause-there
returns-in-Missing-clause-there c =
    rw c.in_ok-push.ensures.items (AreThere-push _ _ _ c.up.invariant.inside c.up.invariant.there)
