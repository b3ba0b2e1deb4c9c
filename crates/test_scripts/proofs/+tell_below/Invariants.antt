use Rattle.test_scripts.proofs.+tell_below.Given as goal

abbrev pub decreases-tell_below : goal.decreases-tell_below
decreases-tell_below l = l.calls
