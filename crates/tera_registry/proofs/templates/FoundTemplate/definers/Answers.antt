use Rattle.std.proofs.Common.{◌∷◌, Some, refl, sym, ap, ◌∙◌}
use Rattle.tera_meaning.specs.Lineage.{ancestors, definers_from}
use Rattle.tera_registry.specs.Numbers.{first_of, from_first, lineage, lineage_from}
use Rattle.tera_registry.specs.Templates.{with_templates, registry_in}
use Rattle.tera_registry.proofs.Ancestors.{grounded}
use Rattle.tera_registry.proofs.Counted.{found-entry, found-within}
use Rattle.tera_registry.proofs.Numbered.{block-of-first, from-lineage, template-climbs}
use Rattle.tera_registry.proofs.templates.FoundTemplate.definers.Goals as goal

pub first_number-requires : goal.first_number-requires
first_number-requires c = (refl, found-within c.args.self.now)

pub definers_from-requires : goal.definers_from-requires
definers_from-requires c =
    let f = c.args.self.now in
    let ts = f.templates.now in
    let e = found-entry f in
    let r = registry_in ts in
    let those = e.0 ∷ ancestors r e.0 in
    block-of-first r c.args.block.now those _ (c.first_number.ensures e.0 e.1 ∙ ap (λ b. first_of (lineage r b those)) c.new-sought.ensures)

pub returns-clause-those : goal.returns-clause-those
returns-clause-those c = λ r.
    let f = c.args.self.now in
    let ts = f.templates.now in
    let q = registry_in ts in
    let e = found-entry f in
    let ok = (grounded q ts.faultless).each f.position e.0 e.1 in
    c.definers_from.ensures.those ∙ ap (from_first q) (c.first_number.ensures e.0 e.1) ∙ from-lineage q _ (e.0 ∷ ancestors q e.0) (template-climbs q f.position e.0 ts.rises e.1 ok)
    ∙ ap (λ b. definers_from (with_templates r ts) b (Some e.0)) c.new-sought.ensures ∙ sym (ap (definers_from (with_templates r ts) c.args.block.now) e.2)

pub returns-clause-number : goal.returns-clause-number
returns-clause-number c = λ r.
    let f = c.args.self.now in
    let ts = f.templates.now in
    let e = found-entry f in
    c.definers_from.ensures.number ∙ c.first_number.ensures e.0 e.1 ∙ ap (λ b. first_of (lineage_from (with_templates r ts) b (Some e.0))) c.new-sought.ensures ∙ sym (ap (λ o. first_of (lineage_from (with_templates r ts) c.args.block.now o)) e.2)
