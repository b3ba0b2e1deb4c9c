use Rattle.tera_state.specs.Engine.{with_function}
use Rattle.tera.proofs.Registered.{registers}
use Rattle.tera.proofs.registering.TeraOver+ObjectsOver+E+F+T+G.register_function.Goals as goal

pub returns : goal.returns
returns g c = λ m.
    registers c.args.self.now c.register_function.new.self m
    (λ m. with_function c.args.name.now (m.function c.args.function)) c.register_function.result c.register_function.ensures.ok c.register_function.ensures.err c.register_function.ensures.lacks
