use Rattle.std.proofs.Common.{sym, ◌∙◌}
use Rattle.tera_built_ins.specs.FunctionTable.{function_named}
use Rattle.tera_state.specs.Table.{listed}
use Rattle.tera_state.proofs.Called.{known-by}
use Rattle.tera_state.proofs.objects.caller_objects.ObjectsOver.knows_function.Goals as goal

pub returns : goal.returns
returns g c m = c.stands_for.ensures ∙ sym (known-by m.function c.args.name.now (listed c.args.self.now.functions) (function_named c.args.name.now))
