use Rattle.std.proofs.Common.{Global, arith, string_bytes}
use Rattle.tera.specs.Budget.{TextTakesMore}
use Rattle.tera.specs.Registry.{registry_of}
use Rattle.tera.specs.Rendering.{OneOff}
use Rattle.tera.proofs.Within.{exceeds, gives_within}
use Rattle.tera.proofs.engine.TeraOver.text_within.Goals as goal

pub returns : goal.returns
returns g c =
    let r = registry_of g.O.Objects.engine c.args.self.now in
    let counted = c.render_text-answer in
    rw c.unless_spent.ensures (gives_within (string_bytes {Z = Global}) counted.result (OneOff r c.args.source.text.now c.args.context.now c.args.autoescape) (TextTakesMore r c.args.source.text.now c.args.context.now c.args.autoescape c.args.limit) _ counted.ensures.means (λ over. counted.ensures.few c.args.limit (omega (arith, c.with_limit-steps.ensures, exceeds c.args.limit g.L.Allowance.allowed counted.new.steps c.requires over))))
