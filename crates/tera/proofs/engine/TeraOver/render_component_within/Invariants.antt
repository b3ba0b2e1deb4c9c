use Rattle.tera.proofs.engine.TeraOver.render_component_within.Given as goal

abbrev pub ghosts-component_within : goal.ghosts-component_within
ghosts-component_within g a = record { allowed = a.limit }
