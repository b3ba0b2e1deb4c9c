use Rattle.tera_registry.specs.Templates.{registry_in}
use Rattle.tera_registry.proofs.templates.FoundTemplate.definers.Given as goal

abbrev pub ghost-first_number : goal.ghost-first_number
ghost-first_number a = registry_in a.self.now
