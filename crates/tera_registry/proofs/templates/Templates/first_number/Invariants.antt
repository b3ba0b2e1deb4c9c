use Rattle.tera_registry.proofs.templates.Templates.first_number.Given as goal

abbrev pub ghost-first_definer : goal.ghost-first_definer
ghost-first_definer g a = g.registry
