use Rattle.tera_values.specs.Escape.{escape_html}
use Rattle.tera_state.specs.Engine.{with_escape}
use Rattle.tera.proofs.Registered.{escapes-by}
use Rattle.tera.proofs.registering.TeraOver+ObjectsOver+E+F+T+G.reset_escape_fn.Goals as goal

pub returns : goal.returns
returns g c = λ m.
    escapes-by c.args.self.now c.reset_escape_fn.new.self m
    (λ m. with_escape escape_html) c.reset_escape_fn.ensures
