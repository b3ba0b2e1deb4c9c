use Rattle.std.proofs.Common.{Ok, ap, sym}
use Rattle.tera_calls.proofs.Ended.{Ends-known}
use Rattle.tera_calls.proofs.call.make_call.Goals as goal

pub returns-in-SetEscapeFn : goal.returns-in-SetEscapeFn
returns-in-SetEscapeFn g c =
    Ends-known _ _ _ _ c.args.engine.now c.set_escape_fn.new.self c.in-SetEscapeFn.is (λ m. ap Ok (sym (c.set_escape_fn.ensures m)))

pub returns-in-ResetEscapeFn : goal.returns-in-ResetEscapeFn
returns-in-ResetEscapeFn g c =
    Ends-known _ _ _ _ c.args.engine.now c.reset_escape_fn.new.self c.in-ResetEscapeFn.is (λ m. ap Ok (sym (c.reset_escape_fn.ensures m)))

pub returns-in-RegisterFilter : goal.returns-in-RegisterFilter
returns-in-RegisterFilter g c = Ends-known _ _ _ _ c.args.engine.now c.register_filter.new.self c.in-RegisterFilter.is c.register_filter.ensures

pub returns-in-RegisterTest : goal.returns-in-RegisterTest
returns-in-RegisterTest g c = Ends-known _ _ _ _ c.args.engine.now c.register_test.new.self c.in-RegisterTest.is c.register_test.ensures

pub returns-in-RegisterFunction : goal.returns-in-RegisterFunction
returns-in-RegisterFunction g c = Ends-known _ _ _ _ c.args.engine.now c.register_function.new.self c.in-RegisterFunction.is c.register_function.ensures

pub returns-in-RegisterFrom : goal.returns-in-RegisterFrom
returns-in-RegisterFrom g c = Ends-known _ _ _ _ c.args.engine.now c.register_from.new.self c.in-RegisterFrom.is c.register_from.ensures
