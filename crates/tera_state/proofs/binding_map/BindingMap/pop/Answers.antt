use Rattle.std.proofs.Common.{◌++◌, Option, None, ap, subst, ◌∙◌}
use Rattle.std.specs.BTreeMap.{UpdatesBy}
use Rattle.std.specs.Option.{option_to_list}
use Rattle.tera_errors.specs.Site.{Name}
use Rattle.tera_state.specs.declared.bindings.Binding.{Binding}
use Rattle.tera_state.specs.LayerNames.{key, layer_name_cmp}
use Rattle.tera_state.proofs.BindingMap.{ordered-shorter}
use Rattle.tera_state.proofs.binding_map.BindingMap.pop.Goals as goal

pub invariant_of-self : goal.invariant_of-self
invariant_of-self c =
    let b = c.in-Some.b in
    let left = c.pop-last.new.self.items in
    λ t. ordered-shorter left c.self.inside.items.items b c.self.inside.places c.remove.new.self
    (c.pop-last.ensures.items ∙ ap (λ (r : Option Binding). left ++ option_to_list r) c.in-Some.is)
    (c.self.invariant t)
    (subst (λ (n : Name). UpdatesBy layer_name_cmp (layer_name_cmp (key b.frame b.layer n)) c.self.inside.places c.remove.new.self None) c.as_name_ref.ensures c.remove.ensures.updates)
