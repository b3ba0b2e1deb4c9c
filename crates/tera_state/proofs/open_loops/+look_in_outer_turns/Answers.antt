use Rattle.std.proofs.Common.{rules, arith, ◌∙◌, sym, ap}
use Rattle.tera_state.specs.Scope.{in_turns}
use Rattle.tera_state.proofs.Finds.{second, turns_step}
use Rattle.tera_state.proofs.Beyond.{kept_first}
use Rattle.tera_state.proofs.open_loops.+look_in_outer_turns.Goals as goal

pub returns-in-Unbound : goal.returns-in-Unbound
returns-in-Unbound t c =
    second _ _ _ c.in-Unbound.ensures c.look_in_outer_turns.ensures ∙ ap (in_turns c.args.name.now) (sym (turns_step c.args.bindings.now c.args.frame c.args.loops.now c.args.layer c.at_height-turn.result.now (search rules) (omega (arith, c.requires)) c.at_height-turn.ensures))

pub returns-in_default : goal.returns-in_default
returns-in_default t c =
    kept_first c.look_in_turn.result _ _ c.in_default.not-Unbound c.look_in_turn.ensures ∙ ap (in_turns c.args.name.now) (sym (turns_step c.args.bindings.now c.args.frame c.args.loops.now c.args.layer c.at_height-turn.result.now (search rules) (omega (arith, c.requires)) c.at_height-turn.ensures))
