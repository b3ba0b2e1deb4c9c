-- What is open, by its names.
use Rattle.std.specs.Prelude.{List, map}
use Rattle.tera_errors.specs.Site.{Name}
use Rattle.tera_registry.specs.declared.templates.FoundTemplate.{FoundTemplate}
use Rattle.tera_machine.specs.declared.open_bodies.OpenBlock.{OpenBlock}

-- the names of templates that are included and open, the innermost first
abbrev pub names_in : List FoundTemplate → List Name
names_in found = map (λ f. f.name.now) found

-- the names of blocks that are open, the innermost first
abbrev pub names_opened : List OpenBlock → List Name
names_opened opened = map (λ b. b.name) opened
