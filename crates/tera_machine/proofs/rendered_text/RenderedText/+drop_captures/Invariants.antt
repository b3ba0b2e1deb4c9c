use Rattle.tera_machine.proofs.rendered_text.RenderedText.+drop_captures.Given as goal

abbrev pub decreases-drop_captures : goal.decreases-drop_captures
decreases-drop_captures l = l.count
