use Rattle.std.proofs.Common.{◌≡◌, None, sym}
use Rattle.tera_meaning.specs.Components.{component}
use Rattle.tera_registry.specs.Choices.{chosen}
use Rattle.tera_registry.specs.Templates.{with_templates}
use Rattle.tera_registry.proofs.Definitions.{component-none}
use Rattle.tera_registry.proofs.Listed.{chosen-in-all}
use Rattle.tera_registry.proofs.templates.Templates.component.Goals as goal

pub returns-in_err-choice-clause-defined : goal.returns-in_err-choice-clause-defined
returns-in_err-choice-clause-defined c = λ r.
    let self = c.args.self.now in
    let q = with_templates r self in
    let name = c.args.name.now in
    let none : component q name ≡ None = component-none q name (chosen self.choices name) (chosen-in-all q self.choices self.chosen name) (sym c.in_err-choice.ensures.value) in
    rw c.from_residual.ensures none

pub definition_at-requires : goal.definition_at-requires
definition_at-requires c = record { name = c.args.name.now; is = sym c.in_ok-choice.ensures.value }

pub returns-clause-defined : goal.returns-clause-defined
returns-clause-defined c = λ r. c.definition_at.ensures.defined r c.args.name.now (sym c.in_ok-choice.ensures.value)
