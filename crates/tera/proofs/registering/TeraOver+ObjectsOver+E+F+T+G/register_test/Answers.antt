use Rattle.tera_state.specs.Engine.{with_test}
use Rattle.tera.proofs.Registered.{registers}
use Rattle.tera.proofs.registering.TeraOver+ObjectsOver+E+F+T+G.register_test.Goals as goal

pub returns : goal.returns
returns g c = λ m.
    registers c.args.self.now c.register_test.new.self m
    (λ m. with_test c.args.name.now (m.test c.args.test)) c.register_test.result c.register_test.ensures.ok c.register_test.ensures.err c.register_test.ensures.lacks
