use Rattle.std.proofs.Common.{◌∙◌, List, sym, ap}
use Rattle.tera_values.specs.Named.{put_all}
use Rattle.tera_state.specs.Scope.{Bindings}
use Rattle.tera_state.specs.declared.bindings.Binding.{Binding}
use Rattle.tera_state.specs.Bound.{layer_of}
use Rattle.tera_state.proofs.Parts.{layer-append, put_all-append, ok_then}
use Rattle.tera_state.proofs.bindings.Bindings.put_layer.Goals as goal

pub returns-clause-ok : goal.returns-clause-ok
returns-clause-ok c =
    let few = c.self.inside.few.items in
    let others = c.self.inside.others in
    let f = c.args.frame in
    let l = c.args.layer in
    let names = c.args.names.now in
    ok_then c.put_layer-2.result
    (λ e.
    e
    ∙ ap (put_all (layer_of others f l)) (c.in_ok-put_layer.ensures.ok ∙ ap (λ (bs : List Binding). put_all (layer_of bs f l) names) c.as_slice.ensures.value)
    ∙ sym (put_all-append (layer_of few f l) (layer_of others f l) names)
    ∙ ap (λ (bs : Bindings). put_all bs names) (sym (layer-append few others f l))
    ∙ ap (λ bs. put_all (layer_of bs f l) names) c.self.view_is)
    c.put_layer-2.ensures.ok
