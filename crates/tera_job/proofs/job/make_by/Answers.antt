use Rattle.tera_job.proofs.Furnishing.{starts, started, made_with, refused_with}
use Rattle.tera_job.proofs.job.make_by.Goals as goal

pub returns-in-Ok-clause-made : goal.returns-in-Ok-clause-made
returns-in-Ok-clause-made g c = λ start was. made_with start c.args.job.now _ c.in_ok-context.context c.in-Ok.made (started start c.args.job.now _ _ (starts _ _ c.in_ok-engine.was was) c.in_ok-furnish.ensures) c.in_ok-context.ensures.ok c.in-Ok.ensures.made

pub returns-clause-refused : goal.returns-clause-refused
returns-clause-refused g c = λ start was. refused_with start c.args.job.now _ c.in_ok-context.context c.in-Err-do_task.error (started start c.args.job.now _ _ (starts _ _ c.in_ok-engine.was was) c.in_ok-furnish.ensures) c.in_ok-context.ensures.ok c.in-Err-do_task.ensures.fails

pub returns-in-Err-clause-refused : goal.returns-in-Err-clause-refused
returns-in-Err-clause-refused g c = λ start was. c.in-Err.ensures start c.in-Check.is
