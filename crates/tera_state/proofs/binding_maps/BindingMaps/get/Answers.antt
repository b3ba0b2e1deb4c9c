use Rattle.std.proofs.Common.{◌≡◌, ◌∙◌, [], ap}
use Rattle.tera_state.specs.Bound.{value_in, layer_of}
use Rattle.tera_state.proofs.Alike.{first_value, second_value}
use Rattle.tera_state.proofs.binding_maps.BindingMaps.get.Goals as goal

pub returns-then-layer-eq0 : goal.returns-then-layer-eq0
returns-then-layer-eq0 c =
    let f = c.args.frame in
    let l = c.args.layer in
    let bodies = c.self.inside.bodies in
    let turns = c.self.inside.turns in
    let none : layer_of turns f l ≡ [] = ap (layer_of turns f) c.if-layer-eq0.true ∙ c.self.invariant.1 f in
    c.get.ensures ∙ first_value bodies turns f l c.args.name.now none ∙ ap (λ bs. value_in bs f l c.args.name.now) c.self.view_is

pub returns-else-layer-eq0 : goal.returns-else-layer-eq0
returns-else-layer-eq0 c =
    let f = c.args.frame in
    let l = c.args.layer in
    let bodies = c.self.inside.bodies in
    let turns = c.self.inside.turns in
    c.get-else-layer-eq0.ensures ∙ second_value bodies turns f l c.args.name.now (c.self.invariant.0 f l c.if-layer-eq0.false) ∙ ap (λ bs. value_in bs f l c.args.name.now) c.self.view_is
