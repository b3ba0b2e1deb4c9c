use Rattle.test_names.proofs.tests.machines.run_body.Given as goal

abbrev pub ghost-run : goal.ghost-run
ghost-run g a = g.about
