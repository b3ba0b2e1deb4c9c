use Rattle.tera.proofs.engine.TeraOver.run_component.Given as goal

abbrev pub ghost-run_counted : goal.ghost-run_counted
ghost-run_counted g a = g.about
