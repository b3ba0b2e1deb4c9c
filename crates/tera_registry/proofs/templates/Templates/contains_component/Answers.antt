use Rattle.std.proofs.Common.{is_some, ap, ◌∙◌}
use Rattle.tera_registry.specs.Templates.{with_templates}
use Rattle.tera_registry.proofs.Definitions.{component-there}
use Rattle.tera_registry.proofs.Listed.{chosen-in-all}
use Rattle.tera_registry.proofs.templates.Templates.contains_component.Goals as goal

pub returns : goal.returns
returns c = λ r.
    let self = c.args.self.now in
    let name = c.args.name.now in
    c.contains_key.ensures ∙ ap is_some (chosen-in-all (with_templates r self) self.choices self.chosen name) ∙ component-there (with_templates r self) name
