use Rattle.tera_registry.proofs.body_table.Linking.block_entry.Given as goal

abbrev pub ghost-next_definer : goal.ghost-next_definer
ghost-next_definer g a = g.registry
