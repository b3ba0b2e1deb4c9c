use Rattle.tera_registry.proofs.link.link.Given as goal

abbrev pub ghost-roots : goal.ghost-roots
ghost-roots g a = g.registry

abbrev pub ghost-any_is_incomplete : goal.ghost-any_is_incomplete
ghost-any_is_incomplete g a = g.registry

abbrev pub ghost-table_of : goal.ghost-table_of
ghost-table_of g a = g.registry

abbrev pub ghost-missing_error : goal.ghost-missing_error
ghost-missing_error g a = g.registry
