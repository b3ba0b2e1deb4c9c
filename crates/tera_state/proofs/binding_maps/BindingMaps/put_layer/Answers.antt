use Rattle.std.proofs.Common.{◌≡◌, ◌∙◌, [], ap}
use Rattle.tera_values.specs.Named.{put_all}
use Rattle.tera_state.specs.Bound.{layer_of}
use Rattle.tera_state.proofs.Parts.{ok_then}
use Rattle.tera_state.proofs.Alike.{first_layer, second_layer}
use Rattle.tera_state.proofs.binding_maps.BindingMaps.put_layer.Goals as goal

pub returns-then-layer-eq0-clause-ok : goal.returns-then-layer-eq0-clause-ok
returns-then-layer-eq0-clause-ok c =
    let f = c.args.frame in
    let l = c.args.layer in
    let turns = c.self.inside.turns in
    let none : layer_of turns f l ≡ [] = ap (layer_of turns f) c.if-layer-eq0.true ∙ c.self.invariant.1 f in
    ok_then c.put_layer.result
    (λ e. e ∙ ap (λ us. put_all us c.args.names.now) (first_layer c.self.inside.bodies turns f l none ∙ ap (λ bs. layer_of bs f l) c.self.view_is))
    c.put_layer.ensures.ok

pub returns-else-layer-eq0-clause-ok : goal.returns-else-layer-eq0-clause-ok
returns-else-layer-eq0-clause-ok c =
    let f = c.args.frame in
    let l = c.args.layer in
    ok_then c.put_layer-else-layer-eq0.result
    (λ e. e ∙ ap (λ us. put_all us c.args.names.now) (second_layer c.self.inside.bodies c.self.inside.turns f l (c.self.invariant.0 f l c.if-layer-eq0.false) ∙ ap (λ bs. layer_of bs f l) c.self.view_is))
    c.put_layer-else-layer-eq0.ensures.ok
