use Rattle.std.proofs.Common.{◌∙◌, ap}
use Rattle.tera_values.specs.Named.{at_name}
use Rattle.tera_values.proofs.Named.{found}
use Rattle.tera_values.proofs.context.Context.look.Goals as goal

pub returns : goal.returns
returns c = c.get.ensures.value ∙ found c.self.inside.names.entries c.args.name.now ∙ ap (at_name c.args.name.now) c.self.view_is
