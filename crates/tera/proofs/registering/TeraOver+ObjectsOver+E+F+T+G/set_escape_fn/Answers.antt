use Rattle.tera_state.specs.Engine.{with_escape}
use Rattle.tera.proofs.Registered.{escapes-by}
use Rattle.tera.proofs.registering.TeraOver+ObjectsOver+E+F+T+G.set_escape_fn.Goals as goal

pub returns : goal.returns
returns g c = λ m.
    escapes-by c.args.self.now c.set_escape_fn.new.self m
    (λ m. with_escape (m.escape c.args.escape)) c.set_escape_fn.ensures
