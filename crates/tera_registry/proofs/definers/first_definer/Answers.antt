use Rattle.std.proofs.Common.{◌≡◌, ◌∷◌, Some, sym, ap, ◌∙◌}
use Rattle.tera_registry.specs.declared.roots.Parent.TheVariants as up
use Rattle.tera_meaning.specs.Lineage.{ancestors}
use Rattle.tera_registry.specs.Kept.{entry_of}
use Rattle.tera_registry.specs.Numbers.{first_of, lineage}
use Rattle.tera_registry.proofs.Kept.{entry-among}
use Rattle.tera_registry.proofs.Ancestors.{none-above, next-ancestors, fewer, not-missing, listed, among, up-at}
use Rattle.tera_registry.proofs.Numbered.{own-number, pass-number}
use Rattle.tera_registry.proofs.definers.first_definer.Goals as goal

pub up-init : goal.up-init
up-init g c = record {
  there = c.requires.1;
  listed = listed g.registry _ _ _ c.requires.0 c.requires.1;
  same = λ t u t_at u_at.
      (let e : t ≡ u = (let q : Some t ≡ Some u = sym t_at ∙ u_at in cc) in
      ap (λ v. lineage g.registry c.args.block.now (v ∷ ancestors g.registry v)) e);
}

pub returns-in-Some-clause-number : goal.returns-in-Some-clause-number
returns-in-Some-clause-number g c = λ t at.
    let r = g.registry in
    let u = entry_of c.deref-template.result.now in
    let here = entry-among r c.args.templates.now c.up.last _ _ c.requires.0.same c.up.invariant.there c.index-templates-last.is c.deref-template.ensures in
    own-number r c.args.block.now c.up.last c.in-Some.position u (ancestors r u) c.requires.0.rises here c.in-Some.ensures ∙ ap first_of (sym (c.up.invariant.same t u at here))

pub up-smaller : goal.up-smaller
up-smaller g c =
    let r = g.registry in
    let here = entry-among r c.args.templates.now c.up.last _ _ c.requires.0.same c.up.invariant.there c.index-templates-last.is c.deref-template.ensures in
    fewer r _ c.up.last c.in-At.next here (c.requires.0.grounded.each c.up.last _ here) (up-at r _ c.args.ups.now c.up.last (up.At c.in-At.next) _ c.requires.0 c.up.invariant.there c.in-At.is here)

pub up-preserved : goal.up-preserved
up-preserved g c =
    let r = g.registry in
    let block = c.args.block.now in
    let u = entry_of c.deref-template.result.now in
    let here = entry-among r c.args.templates.now c.up.last _ _ c.requires.0.same c.up.invariant.there c.index-templates-last.is c.deref-template.ensures in
    let above = up-at r _ c.args.ups.now c.up.last (up.At c.in-At.next) u c.requires.0 c.up.invariant.there c.in-At.is here in
    let ok = c.requires.0.grounded.each c.up.last u here in
    let there = among r c.args.templates.now _ c.in-At.next c.requires.0 above.2.1 in
    record {
      there = there;
      listed = listed r _ _ _ c.requires.0 there;
      same = λ t v t_at v_at.
          c.up.invariant.same t u t_at here ∙ pass-number r block c.up.last u (ancestors r u) c.requires.0.rises here c.in_default.ensures ∙ ap (lineage r block) (next-ancestors r u v c.in-At.next ok above v_at);
    }

pub returns-in-None-clause-number : goal.returns-in-None-clause-number
returns-in-None-clause-number g c = λ t at.
    let r = g.registry in
    let block = c.args.block.now in
    let u = entry_of c.deref-template.result.now in
    let here = entry-among r c.args.templates.now c.up.last _ _ c.requires.0.same c.up.invariant.there c.index-templates-last.is c.deref-template.ensures in
    let alone = none-above r u (up-at r _ c.args.ups.now c.up.last up.None u c.requires.0 c.up.invariant.there c.in-None.is here) in
    sym (ap first_of (c.up.invariant.same t u at here ∙ pass-number r block c.up.last u (ancestors r u) c.requires.0.rises here c.in_default.ensures ∙ ap (lineage r block) alone))

pub returns-in-Missing-clause-number : goal.returns-in-Missing-clause-number
returns-in-Missing-clause-number g c =
    let r = g.registry in
    let u = entry_of c.deref-template.result.now in
    let here = entry-among r c.args.templates.now c.up.last _ _ c.requires.0.same c.up.invariant.there c.index-templates-last.is c.deref-template.ensures in
    let above = up-at r _ c.args.ups.now c.up.last up.Missing u c.requires.0 c.up.invariant.there c.in-Missing.is here in
    λ t at. absurd (not-missing r u above.0 (c.requires.0.grounded.each c.up.last u here) above.1 above.2)
