use Rattle.tera_registry.proofs.definers.first_definer_above.Given as goal

abbrev pub ghost-first_definer : goal.ghost-first_definer
ghost-first_definer g a = g.registry
