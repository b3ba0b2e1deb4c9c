use Rattle.tera.specs.Registry.{registry_of}
use Rattle.tera.proofs.engine.TeraOver.get_template_variables.Goals as goal

pub returns : goal.returns
returns g c = c.variables.ensures (registry_of g.O.Objects.engine c.args.self.now)
