use Rattle.std.proofs.Common.{◌∙◌}
use Rattle.tera_state.proofs.Listed.{listed-get}
use Rattle.tera_state.proofs.objects.table.ObjectTable.get.Goals as goal

pub returns : goal.returns
returns g c = c.get.ensures.value ∙ listed-get c.args.self.now.entries.entries c.args.name.now
