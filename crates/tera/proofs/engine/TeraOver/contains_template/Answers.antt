use Rattle.tera.specs.Registry.{registry_of}
use Rattle.tera.proofs.engine.TeraOver.contains_template.Goals as goal

pub returns : goal.returns
returns g c = c.contains.ensures (registry_of g.O.Objects.engine c.args.self.now)
