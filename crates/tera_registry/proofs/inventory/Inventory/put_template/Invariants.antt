use Rattle.tera_registry.proofs.inventory.Inventory.put_template.Given as goal

abbrev pub ghost-add_blocks : goal.ghost-add_blocks
ghost-add_blocks g a = g.registry
