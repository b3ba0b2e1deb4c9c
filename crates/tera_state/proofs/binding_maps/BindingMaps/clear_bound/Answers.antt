use Rattle.tera_state.proofs.binding_maps.BindingMaps.clear_bound.Goals as goal

pub returns : goal.returns
returns c = c.clear.ensures
