use Rattle.std.proofs.Common.{Global, ◌*◌, ◌<◌, arith, string_bytes}
use Rattle.tera.specs.Budget.{template_visits}
use Rattle.tera.specs.Registry.{registry_of}
use Rattle.tera.specs.Rendering.{ByName}
use Rattle.tera.proofs.Within.{exceeds, gives_within}
use Rattle.tera.proofs.engine.TeraOver.template_within.Goals as goal

pub returns : goal.returns
returns g c =
    let r = registry_of g.O.Objects.engine c.args.self.now in
    let counted = c.render_template-answer in
    rw c.unless_spent.ensures (gives_within (string_bytes {Z = Global}) counted.result (ByName r c.args.template.name.now c.args.context.now) (c.args.limit < 8 * template_visits r c.args.template.name.now c.args.context.now) _ counted.ensures.means (λ over. omega (arith, c.with_limit-steps.ensures, counted.ensures.few, exceeds c.args.limit g.L.Allowance.allowed counted.new.steps c.requires over)))
