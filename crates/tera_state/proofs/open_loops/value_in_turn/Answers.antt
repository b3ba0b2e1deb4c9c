use Rattle.std.proofs.Common.{◌∙◌, ap, refl, sym}
use Rattle.tera_values.specs.Named.{at_name}
use Rattle.tera_state.specs.Opened.{counters_of, names_at}
use Rattle.tera_state.proofs.Finds.{first, second, lent_as}
use Rattle.tera_state.proofs.Layers.{value-is}
use Rattle.tera_state.proofs.open_loops.value_in_turn.Goals as goal

pub returns-in-Some : goal.returns-in-Some
returns-in-Some c =
    let uncounted = c.in-Unbound.ensures ∙ ap (λ n. at_name n (counters_of c.args.turn.now)) c.as_name_ref.ensures in
    sym (second _ _ _ uncounted (first _ _ (at_name c.args.name.now (names_at c.args.turn.now)) (c.in-Some.ensures ∙ value-is c.args.bindings.now c.args.frame c.args.layer c.args.name.now) c.in-Some.value.now refl))

pub returns-in-None : goal.returns-in-None
returns-in-None c =
    let uncounted = c.in-Unbound.ensures ∙ ap (λ n. at_name n (counters_of c.args.turn.now)) c.as_name_ref.ensures in
    let unset = c.in-None.ensures ∙ value-is c.args.bindings.now c.args.frame c.args.layer c.args.name.now in
    let named = c.loop_value.ensures ∙ ap (λ n. at_name n (names_at c.args.turn.now)) c.as_name_ref-in-None.ensures in
    lent_as c.value.result (λ v. v.now) (sym (second _ _ _ uncounted (second _ _ _ unset named))) c.value.ensures
