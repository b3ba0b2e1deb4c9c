use Rattle.tera.proofs.engine.TeraOver.render_str_within.Given as goal

abbrev pub ghosts-text_within : goal.ghosts-text_within
ghosts-text_within g a = record { allowed = a.limit }
