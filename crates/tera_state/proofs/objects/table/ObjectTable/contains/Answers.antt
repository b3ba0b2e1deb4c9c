use Rattle.std.proofs.Common.{◌∙◌, ap, is_some}
use Rattle.tera_state.proofs.Listed.{listed-get}
use Rattle.tera_state.proofs.objects.table.ObjectTable.contains.Goals as goal

pub returns : goal.returns
returns g c = c.contains_key.ensures ∙ ap is_some (listed-get c.args.self.now.entries.entries c.args.name.now)
