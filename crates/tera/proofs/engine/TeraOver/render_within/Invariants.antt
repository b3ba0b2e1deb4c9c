use Rattle.tera.proofs.engine.TeraOver.render_within.Given as goal

abbrev pub ghosts-template_within : goal.ghosts-template_within
ghosts-template_within g a = record { allowed = a.limit }
