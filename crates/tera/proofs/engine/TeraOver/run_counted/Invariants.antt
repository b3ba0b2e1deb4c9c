use Rattle.tera.proofs.engine.TeraOver.run_counted.Given as goal

abbrev pub ghost-run : goal.ghost-run
ghost-run g a = g.about
