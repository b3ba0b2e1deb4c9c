use Rattle.tera_registry.proofs.told_missing.missing_error.Given as goal

abbrev pub ghost-put_template : goal.ghost-put_template
ghost-put_template g a = g.registry
