use Rattle.std.proofs.Common.{◌≡◌, ◌∙◌, ◌++◌, List, [], ap}
use Rattle.tera_state.specs.declared.bindings.Binding.{Binding}
use Rattle.tera_state.specs.Bound.{with_binding, layer_of}
use Rattle.tera_state.proofs.Parts.{ok_then}
use Rattle.tera_state.proofs.Alike.{apart_put_first, apart_put_second, with_in_first, with_in_second}
use Rattle.tera_state.proofs.binding_maps.BindingMaps.put.Goals as goal

pub invariant_of-self : goal.invariant_of-self
invariant_of-self c =
    let b = c.args.binding in
    apart_put_first c.self.inside.bodies c.put.new.self c.self.inside.turns b.frame b.layer b.name b.value c.put.result c.if-binding-eq0.true c.self.invariant c.put.ensures.ok c.put.ensures.err

pub invariant_of-self-else-binding-eq0 : goal.invariant_of-self-else-binding-eq0
invariant_of-self-else-binding-eq0 c =
    let b = c.args.binding in
    apart_put_second c.self.inside.bodies c.self.inside.turns c.put-else-binding-eq0.new.self b.frame b.layer b.name b.value c.put-else-binding-eq0.result c.if-binding-eq0.false c.self.invariant c.put-else-binding-eq0.ensures.ok c.put-else-binding-eq0.ensures.err

pub returns-then-binding-eq0-clause-ok : goal.returns-then-binding-eq0-clause-ok
returns-then-binding-eq0-clause-ok c =
    let b = c.args.binding in
    let bodies = c.self.inside.bodies in
    let turns = c.self.inside.turns in
    let none : layer_of turns b.frame b.layer ≡ [] = ap (layer_of turns b.frame) c.if-binding-eq0.true ∙ c.self.invariant.1 b.frame in
    ok_then c.put.result
    (λ e f l.
    ap (λ (bs : List Binding). layer_of (bs ++ turns) f l) e
    ∙ with_in_first bodies turns b.frame b.layer b.name b.value none f l
    ∙ ap (λ bs. layer_of (with_binding bs b.frame b.layer b.name b.value) f l) c.self.view_is)
    c.put.ensures.ok

pub returns-else-binding-eq0-clause-ok : goal.returns-else-binding-eq0-clause-ok
returns-else-binding-eq0-clause-ok c =
    let b = c.args.binding in
    let bodies = c.self.inside.bodies in
    let turns = c.self.inside.turns in
    ok_then c.put-else-binding-eq0.result
    (λ e f l.
    ap (λ (bs : List Binding). layer_of (bodies ++ bs) f l) e
    ∙ with_in_second bodies turns b.frame b.layer b.name b.value (c.self.invariant.0 b.frame b.layer c.if-binding-eq0.false) f l
    ∙ ap (λ bs. layer_of (with_binding bs b.frame b.layer b.name b.value) f l) c.self.view_is)
    c.put-else-binding-eq0.ensures.ok
