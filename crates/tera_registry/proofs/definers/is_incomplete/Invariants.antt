use Rattle.tera_registry.proofs.definers.is_incomplete.Given as goal

abbrev pub ghost-has_orphan_block : goal.ghost-has_orphan_block
ghost-has_orphan_block g a = g.registry
