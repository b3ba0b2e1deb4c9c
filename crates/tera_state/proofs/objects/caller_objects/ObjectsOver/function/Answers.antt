use Rattle.std.proofs.Common.{Some, None, sym, ap, ◌∙◌, option_copied}
use Rattle.tera_built_ins.specs.FunctionTable.{function_named}
use Rattle.tera_state.specs.Table.{listed}
use Rattle.tera_state.proofs.Called.{finds-own, finds-built_in}
use Rattle.tera_state.proofs.objects.caller_objects.ObjectsOver.function.Goals as goal

pub returns-in-Some : goal.returns-in-Some
returns-in-Some g c m =
    finds-own m.function c.args.name.now (listed c.args.self.now.functions) (function_named c.args.name.now) c.in-Some.own.now (sym (ap option_copied c.in-Some.is) ∙ c.get.ensures)

pub returns-in-Some-by_name : goal.returns-in-Some-by_name
returns-in-Some-by_name g c m =
    finds-built_in m.function c.args.name.now (listed c.args.self.now.functions) (function_named c.args.name.now) (Some c.in-Some-by_name.function) (sym c.in-Some-by_name.is ∙ c.by_name.ensures) (sym (ap option_copied c.in-None.is) ∙ c.get.ensures)

pub returns-in-None-by_name : goal.returns-in-None-by_name
returns-in-None-by_name g c m =
    finds-built_in m.function c.args.name.now (listed c.args.self.now.functions) (function_named c.args.name.now) None (sym c.in-None-by_name.is ∙ c.by_name.ensures) (sym (ap option_copied c.in-None.is) ∙ c.get.ensures)
