use Rattle.std.proofs.Common.{List, ap, sym, ◌∙◌}
use Rattle.tera_state.specs.declared.bindings.Binding.{Binding}
use Rattle.tera_state.specs.BindingMap.{last_layer, goes_on}
use Rattle.tera_state.proofs.BindingMap.{place_of, ordered-placed}
use Rattle.tera_state.proofs.binding_map.BindingMap.push.Goals as goal

pub invariant_of-self : goal.invariant_of-self
invariant_of-self c =
    let b = c.args.binding in
    let items = c.self.inside.items.items in
    let is_ordered = c.self.inside.is_ordered in
    ordered-placed c.place.result is_ordered items c.place.new.items.items b c.self.inside.places c.place.new.places
    c.place.ensures.items c.place.ensures.places c.place.ensures.err_items c.place.ensures.err_places
    c.self.invariant
    (ap (λ (bs : List Binding). goes_on is_ordered (last_layer bs) b.frame b.layer) (sym c.as_slice.ensures.value) ∙ sym c.goes_on.ensures ∙ c.if-goes_on.true)
    (ap (λ (bs : List Binding). place_of 0 bs b) c.self.view_is ∙ c.requires)
