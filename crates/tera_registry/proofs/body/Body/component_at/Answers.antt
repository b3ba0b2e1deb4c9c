use Rattle.std.proofs.Common.{◌≡◌, None, sym, ◌∙◌}
use Rattle.tera_code.specs.Targets.{ComponentNamed}
use Rattle.tera_meaning.specs.Components.{component}
use Rattle.tera_registry.specs.Choices.{chosen}
use Rattle.tera_registry.specs.Templates.{registry_in, with_templates}
use Rattle.tera_registry.proofs.Definitions.{component-none}
use Rattle.tera_registry.proofs.Listed.{chosen-in-all}
use Rattle.tera_registry.proofs.Handed.{nothing-taken, leads-so, call-leads, choice-taken}
use Rattle.tera_registry.proofs.body.Body.component_at.Goals as goal

pub returns-in_err-link-clause-defined : goal.returns-in_err-link-clause-defined
returns-in_err-link-clause-defined c = λ r name taken.
    absurd (nothing-taken c.args.self.now c.args.at (ComponentNamed name) c.in_err-link.ensures.exact taken)

pub returns-in_err-choice-clause-defined : goal.returns-in_err-choice-clause-defined
returns-in_err-choice-clause-defined c = λ r name taken.
    let b = c.args.self.now in
    let ts = b.templates.now in
    let q = with_templates r ts in
    let none : chosen ts.choices name ≡ None = call-leads (registry_in ts) ts.choices c.args.at name c.in_ok-link.link (leads-so b c.args.at (ComponentNamed name) c.in_ok-link.link c.in_ok-link.ensures.exact taken) ∙ sym c.in_err-choice.ensures in
    let gone : component q name ≡ None = component-none q name (chosen ts.choices name) (chosen-in-all q ts.choices ts.chosen name) none in
    rw c.from_residual-in_err-choice.ensures gone

pub definition_at-requires : goal.definition_at-requires
definition_at-requires c =
    let ts = c.args.self.now.templates.now in
    let p = c.in_ok-link.ensures.some in
    choice-taken (registry_in ts) ts.choices p.0 c.in_ok-link.link c.in_ok-choice.choice p.1 c.in_ok-choice.ensures

pub returns-clause-defined : goal.returns-clause-defined
returns-clause-defined c = λ r name taken.
    let b = c.args.self.now in
    let ts = b.templates.now in
    c.definition_at.ensures.defined r name (call-leads (registry_in ts) ts.choices c.args.at name c.in_ok-link.link (leads-so b c.args.at (ComponentNamed name) c.in_ok-link.link c.in_ok-link.ensures.exact taken) ∙ sym c.in_ok-choice.ensures)
