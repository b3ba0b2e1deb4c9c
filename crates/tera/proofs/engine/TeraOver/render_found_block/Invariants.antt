use Rattle.tera.proofs.engine.TeraOver.render_found_block.Given as goal

abbrev pub ghost-run_for_block : goal.ghost-run_for_block
ghost-run_for_block g a = g.about
