use Rattle.tera.specs.MeaningRegistry.{new_registry}
use Rattle.tera_job.proofs.job.make.Goals as goal

pub returns-clause-made : goal.returns-clause-made
returns-clause-made g c = c.make_by.ensures.made new_registry c.new.ensures

pub returns-clause-refused : goal.returns-clause-refused
returns-clause-refused g c = c.make_by.ensures.refused new_registry c.new.ensures
