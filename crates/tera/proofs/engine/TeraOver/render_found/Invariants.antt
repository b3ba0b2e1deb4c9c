use Rattle.tera.proofs.engine.TeraOver.render_found.Given as goal

abbrev pub ghost-run_counted : goal.ghost-run_counted
ghost-run_counted g a = g.about
