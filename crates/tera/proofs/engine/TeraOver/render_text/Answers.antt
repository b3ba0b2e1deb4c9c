use Rattle.tera.proofs.engine.TeraOver.render_text.Goals as goal

pub returns-clause-means : goal.returns-clause-means
returns-clause-means g c = rw c.tell.ensures c.read_and_render-answer.ensures.means
