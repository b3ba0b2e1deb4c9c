use Rattle.tera_state.specs.Engine.{with_filter}
use Rattle.tera.proofs.Registered.{registers}
use Rattle.tera.proofs.registering.TeraOver+ObjectsOver+E+F+T+G.register_filter.Goals as goal

pub returns : goal.returns
returns g c = λ m.
    registers c.args.self.now c.register_filter.new.self m
    (λ m. with_filter c.args.name.now (m.filter c.args.filter)) c.register_filter.result c.register_filter.ensures.ok c.register_filter.ensures.err c.register_filter.ensures.lacks
