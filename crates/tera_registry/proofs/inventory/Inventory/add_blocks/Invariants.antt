use Rattle.tera_registry.proofs.inventory.Inventory.add_blocks.Given as goal

abbrev pub ghost-first_definer_above : goal.ghost-first_definer_above
ghost-first_definer_above g a = g.registry
