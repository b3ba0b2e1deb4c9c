use Rattle.std.proofs.Common.{Global, ◌*◌, ◌<◌, arith, string_bytes}
use Rattle.tera.specs.Budget.{component_visits}
use Rattle.tera.specs.Lent.{lent_text}
use Rattle.tera.specs.Registry.{registry_of}
use Rattle.tera.specs.Rendering.{ComponentByName}
use Rattle.tera.proofs.Within.{exceeds, gives_within}
use Rattle.tera.proofs.engine.TeraOver.component_within.Goals as goal

pub returns : goal.returns
returns g c =
    let r = registry_of g.O.Objects.engine c.args.self.now in
    let a = c.args in
    let counted = c.render_by_call-answer in
    rw c.unless_spent.ensures (gives_within (string_bytes {Z = Global}) counted.result (ComponentByName r a.call.name.now a.args.now a.implicits.now (lent_text a.call.body) a.autoescape) (a.limit < 8 * component_visits r a.call.name.now a.args.now a.implicits.now (lent_text a.call.body) a.autoescape) _ counted.ensures.means (λ over. omega (arith, c.with_limit-steps.ensures, counted.ensures.few, exceeds a.limit g.L.Allowance.allowed counted.new.steps c.requires over)))
