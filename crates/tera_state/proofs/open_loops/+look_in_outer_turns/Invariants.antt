use Rattle.tera_state.proofs.open_loops.+look_in_outer_turns.Given as goal

abbrev pub decreases-look_in_outer_turns : goal.decreases-look_in_outer_turns
decreases-look_in_outer_turns l = l.layer
