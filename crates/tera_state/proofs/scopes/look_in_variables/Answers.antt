use Rattle.std.proofs.Common.{◌∙◌}
use Rattle.tera_state.proofs.Layers.{value-is}
use Rattle.tera_state.proofs.Finds.{second}
use Rattle.tera_state.proofs.Beyond.{kept_first}
use Rattle.tera_state.proofs.scopes.look_in_variables.Goals as goal

pub returns-in-Unbound : goal.returns-in-Unbound
returns-in-Unbound c =
    second _ _ _ c.in-Unbound.ensures (c.found_value_of.ensures ∙ c.get.ensures ∙ value-is c.args.bindings.now c.args.frame 0 c.args.name.now)

pub returns-in_default : goal.returns-in_default
returns-in_default c = kept_first c.look.result _ _ c.in_default.not-Unbound c.look.ensures
