use Rattle.tera.specs.Registry.{registry_of}
use Rattle.tera.proofs.engine.TeraOver.get_component_names.Goals as goal

pub returns-clause-names : goal.returns-clause-names
returns-clause-names g c = c.component_names.ensures.names (registry_of g.O.Objects.engine c.args.self.now)
