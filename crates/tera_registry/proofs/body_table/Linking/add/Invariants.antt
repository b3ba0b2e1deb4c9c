use Rattle.tera_registry.proofs.body_table.Linking.add.Given as goal

abbrev pub ghost-add_blocks : goal.ghost-add_blocks
ghost-add_blocks g a = g.registry
