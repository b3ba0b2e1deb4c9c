use Rattle.std.proofs.Common.{rules, ◌∙◌, List, ap}
use Rattle.tera_state.specs.declared.bindings.Binding.{Binding}
use Rattle.tera_state.specs.Bound.{with_binding, layer_of}
use Rattle.tera_state.proofs.Parts.{with-second, pushed}
use Rattle.tera_state.proofs.Alike.{alike_same, alike_behind}
use Rattle.tera_state.proofs.bindings.append.Goals as goal

pub returns-in_ok-push-clause-ok : goal.returns-in_ok-push-clause-ok
returns-in_ok-push-clause-ok c h =
    alike_same _ _ (pushed c.args.few.now.items c.args.others.now c.args.binding c.push.new.self.items c.in_ok-push.ensures.items (search (rules, c.is_empty.ensures.0)) h)

pub returns-in_ok-put-clause-ok : goal.returns-in_ok-put-clause-ok
returns-in_ok-put-clause-ok c h =
    let few = c.args.few.now.items in
    let b = c.args.binding in
    let others = c.args.others.now in
    λ f l.
    alike_behind few c.put.new.self (with_binding others b.frame b.layer b.name b.value) c.in_ok-put.ensures.ok f l
    ∙ ap (λ (bs : List Binding). layer_of bs f l) (with-second 0 few others b.frame b.layer b.name b.value h)
