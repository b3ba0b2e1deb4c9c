use Rattle.std.proofs.Common.{◌∙◌}
use Rattle.tera_registry.specs.Kept.{entries_of}
use Rattle.tera_registry.proofs.Element.{element}
use Rattle.tera_registry.proofs.Wanted.{lent-grounded, lent-uncircled, answers-found, answers-none}
use Rattle.tera_registry.proofs.templates.Templates.variables.Goals as goal

pub variables-requires-clause-grounded : goal.variables-requires-clause-grounded
variables-requires-clause-grounded c =
    lent-grounded c.args.self.now.all.items c.as_slice-all.result.now c.args.self.now.prefixes.items c.as_slice-prefixes.result.now c.as_slice-all.ensures.value c.as_slice-prefixes.ensures.value c.args.self.now.faultless

pub variables-requires-clause-uncircled : goal.variables-requires-clause-uncircled
variables-requires-clause-uncircled c =
    lent-uncircled c.args.self.now.all.items c.as_slice-all.result.now c.args.self.now.prefixes.items c.as_slice-prefixes.result.now c.as_slice-all.ensures.value c.as_slice-prefixes.ensures.value c.args.self.now.faultless

pub returns-in-Some : goal.returns-in-Some
returns-in-Some c = λ r.
    let t = element (entries_of c.as_slice-all.result.now) c.in-Some.position c.in-Some.ensures.1 in
    answers-found r c.args.self.now.all.items c.as_slice-all.result.now c.args.self.now.prefixes.items c.as_slice-prefixes.result.now c.args.name.now c.as_slice-all.ensures.value c.as_slice-prefixes.ensures.value c.in-Some.position t.0 c.variables.result (c.in-Some.ensures.0 ∙ t.1) c.variables.ensures.ordered (c.variables.ensures.ok t.0 t.1) c.variables.ensures.lacks

pub returns-in-None : goal.returns-in-None
returns-in-None c = λ r.
    answers-none r c.args.self.now.all.items c.as_slice-all.result.now c.args.self.now.prefixes.items c.as_slice-prefixes.result.now c.args.name.now c.as_slice-all.ensures.value c.as_slice-prefixes.ensures.value c.template_not_found.result c.in-None.ensures c.template_not_found.ensures
