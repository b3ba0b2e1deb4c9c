use Rattle.std.proofs.Common.{sym, ap, ◌∙◌}
use Rattle.tera_registry.specs.declared.roots.Parent.TheVariants as up
use Rattle.tera_registry.specs.Numbers.{first_of, lineage}
use Rattle.tera_registry.proofs.Element.{element}
use Rattle.tera_registry.proofs.Ancestors.{next-ancestors, none-above, not-missing, listed, among, up-at, entry-there}
use Rattle.tera_registry.proofs.definers.first_definer_above.Goals as goal

pub bounds-ups-of : goal.bounds-ups-of
bounds-ups-of g c = listed g.registry c.args.templates.now _ _ c.requires.0 c.requires.1

pub first_definer-requires : goal.first_definer-requires
first_definer-requires g c =
    let r = g.registry in
    let t = entry-there r c.args.templates.now _ c.args.of c.requires.0 c.requires.1 in
    let above = up-at r _ c.args.ups.now c.args.of (up.At c.in-At.next) t.0 c.requires.0 c.requires.1 c.in-At.is t.1 in
    (c.requires.0, among r _ c.args.ups.now c.in-At.next c.requires.0 above.2.1)

pub returns-in-At-clause-number : goal.returns-in-At-clause-number
returns-in-At-clause-number g c = λ t at.
    let r = g.registry in
    let above = up-at r _ c.args.ups.now c.args.of (up.At c.in-At.next) t c.requires.0 c.requires.1 c.in-At.is at in
    let v = element r.templates c.in-At.next above.2.1 in
    let behind = next-ancestors r t v.0 c.in-At.next (c.requires.0.grounded.each c.args.of t at) above v.1 in
    c.first_definer.ensures.number v.0 v.1 ∙ sym (ap (λ ts. first_of (lineage r c.args.block.now ts)) behind)

pub returns-in-None-clause-number : goal.returns-in-None-clause-number
returns-in-None-clause-number g c = λ t at.
    let r = g.registry in
    let none = up-at r _ c.args.ups.now c.args.of up.None t c.requires.0 c.requires.1 c.in-None.is at in
    sym (ap (λ ts. first_of (lineage r c.args.block.now ts)) (none-above r t none))

pub returns-in-Missing-clause-number : goal.returns-in-Missing-clause-number
returns-in-Missing-clause-number g c = λ t at.
    let above = up-at g.registry _ c.args.ups.now c.args.of up.Missing t c.requires.0 c.requires.1 c.in-Missing.is at in
    absurd (not-missing g.registry t above.0 (c.requires.0.grounded.each c.args.of t at) above.1 above.2)
