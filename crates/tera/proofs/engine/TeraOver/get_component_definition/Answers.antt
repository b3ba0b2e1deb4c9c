use Rattle.std.proofs.Common.{Some, Ok, ap, ◌∙◌}
use Rattle.tera.specs.Registry.{registry_of}
use Rattle.tera.proofs.ByComponent.{info-found, info-missing}
use Rattle.tera.proofs.engine.TeraOver.get_component_definition.Goals as goal

pub returns-in_ok-info-in-Some : goal.returns-in_ok-info-in-Some
returns-in_ok-info-in-Some g c =
    let r = registry_of g.O.Objects.engine c.args.self.now in
    ap Ok (info-found r c.args.name.now c.in-Some.found (c.in-Some.ensures.defined r)) ∙ ap (λ i. Ok (Some i)) (let h = c.in_ok-info-in-Some.ensures in cc)

pub returns-in-None : goal.returns-in-None
returns-in-None g c =
    let r = registry_of g.O.Objects.engine c.args.self.now in
    ap Ok (info-missing r c.args.name.now (c.in-None.ensures.defined r))
