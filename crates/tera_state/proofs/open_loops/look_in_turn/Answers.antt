use Rattle.std.proofs.Common.{◌∙◌, refl}
use Rattle.tera_values.specs.Named.{at_name}
use Rattle.tera_state.specs.Opened.{names_at}
use Rattle.tera_state.proofs.Finds.{first, second}
use Rattle.tera_state.proofs.Layers.{value-is}
use Rattle.tera_state.proofs.open_loops.look_in_turn.Goals as goal

pub returns-in-Some : goal.returns-in-Some
returns-in-Some c =
    second _ _ _ c.in-Unbound.ensures (first _ _ (at_name c.args.name.now (names_at c.args.turn.now)) (c.in-Some.ensures ∙ value-is c.args.bindings.now c.args.frame c.args.layer c.args.name.now) c.in-Some.value.now refl)

pub returns-in-None : goal.returns-in-None
returns-in-None c =
    second _ _ _ c.in-Unbound.ensures (second _ _ _ (c.in-None.ensures ∙ value-is c.args.bindings.now c.args.frame c.args.layer c.args.name.now) c.loop_value.ensures)
