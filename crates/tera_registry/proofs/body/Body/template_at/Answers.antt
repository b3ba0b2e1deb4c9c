use Rattle.std.proofs.Common.{None, Some, sym, subst, arith}
use Rattle.tera_code.specs.Targets.{TemplateNamed}
use Rattle.tera_registry.specs.Kept.{entries_of}
use Rattle.tera_registry.specs.Positions.{IsPosition}
use Rattle.tera_meaning.specs.Resolve.{resolve}
use Rattle.tera_registry.specs.Templates.{registry_in}
use Rattle.tera_registry.proofs.Kept.{length-entries}
use Rattle.tera_registry.proofs.Handed.{nothing-taken, leads-so, include-leads, place-within}
use Rattle.tera_registry.proofs.body.Body.template_at.Goals as goal

pub returns-in_err-link : goal.returns-in_err-link
returns-in_err-link c = λ r name taken.
    absurd (nothing-taken c.args.self.now c.args.at (TemplateNamed name) c.in_err-link.ensures.exact taken)

pub returns-in_err-position : goal.returns-in_err-position
returns-in_err-position c = λ r name taken.
    let b = c.args.self.now in
    let ts = b.templates.now in
    let is : IsPosition (entries_of ts.all.items) None (resolve (registry_in ts) name) = subst (λ o. IsPosition (entries_of ts.all.items) o (resolve (registry_in ts) name)) (sym c.in_err-position.ensures) (include-leads (registry_in ts) ts.choices c.args.at name c.in_ok-link.link (leads-so b c.args.at (TemplateNamed name) c.in_ok-link.link c.in_ok-link.ensures.exact taken) ts.rises) in
    rw c.from_residual-in_err-position.ensures is

pub found_template_at-requires : goal.found_template_at-requires
found_template_at-requires c =
    let ts = c.args.self.now.templates.now in
    let p = c.in_ok-link.ensures.some in
    let lt = place-within (registry_in ts) ts.choices p.0 c.in_ok-link.link c.in_ok-position.position p.1 c.in_ok-position.ensures in
    omega (arith, lt, length-entries ts.all.items)

pub returns : goal.returns
returns c = λ r name taken.
    let b = c.args.self.now in
    let ts = b.templates.now in
    let is : IsPosition (entries_of ts.all.items) (Some c.in_ok-position.position) (resolve (registry_in ts) name) = subst (λ o. IsPosition (entries_of ts.all.items) o (resolve (registry_in ts) name)) (sym c.in_ok-position.ensures) (include-leads (registry_in ts) ts.choices c.args.at name c.in_ok-link.link (leads-so b c.args.at (TemplateNamed name) c.in_ok-link.link c.in_ok-link.ensures.exact taken) ts.rises) in
    c.found_template_at.ensures r name is
