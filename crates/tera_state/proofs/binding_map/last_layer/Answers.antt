use Rattle.std.proofs.Common.{Some, ap, ◌∙◌}
use Rattle.std.specs.Option.{option_map}
use Rattle.tera_state.specs.BindingMap.{layer_at}
use Rattle.tera_state.proofs.BindingMap.{last-is}
use Rattle.tera_state.proofs.binding_map.last_layer.Goals as goal

pub returns-in-Some : goal.returns-in-Some
returns-in-Some c = ap Some c.layer_at.ensures ∙ ap (option_map layer_at) c.in-Some.ensures.value ∙ last-is c.args.items.now
