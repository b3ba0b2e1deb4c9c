use Rattle.std.proofs.Common.{sym, ◌∙◌}
use Rattle.tera_built_ins.specs.Filters.{filter_named}
use Rattle.tera_state.specs.Table.{listed}
use Rattle.tera_state.proofs.Called.{known-by}
use Rattle.tera_state.proofs.objects.caller_objects.ObjectsOver.knows_filter.Goals as goal

pub returns : goal.returns
returns g c m = c.stands_for.ensures ∙ sym (known-by m.filter c.args.name.now (listed c.args.self.now.filters.table) (filter_named c.args.name.now))
