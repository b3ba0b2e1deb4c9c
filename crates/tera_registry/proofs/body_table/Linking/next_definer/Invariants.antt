use Rattle.tera_registry.proofs.body_table.Linking.next_definer.Given as goal

abbrev pub ghost-first_definer_above : goal.ghost-first_definer_above
ghost-first_definer_above g a = g.registry
