use Rattle.std.proofs.Common.{◌≡◌, rules, List, Option, sym, ap, ◌∙◌}
use Rattle.tera_errors.specs.Answer.{Says}
use Rattle.tera_errors.specs.Site.{Name}
use Rattle.tera_values.specs.Val.{Val}
use Rattle.tera_values.specs.Named.{Named, put}
use Rattle.tera_values.proofs.Named.{name_inserted}
use Rattle.tera_components.specs.Definition.{named_arguments, with_formals, or_message}
use Rattle.tera_components.proofs.Calls.{answered, with_formals_refused, with_formals_next}
use Rattle.tera_components.proofs.definition.ComponentDefinition.map_arguments.Goals as goal

pub returns-in_err-value : goal.returns-in_err-value
returns-in_err-value g c =
    let look : Name → Val = g.C.Implicits.implicit c.args.caller.now in
    let given : List (Name × Val) = named_arguments c.args.given.now in
    let meant : Option (Named Val) = with_formals look given c.args.self.now.formals c.args.context.now.entries in
    let says : Says c.in_err-value.field-0.0 (or_message meant) =
    with_formals_refused look given c.deref-argument-items.result.now c.loop-argument.argument-index c.argument-item.result c.loop-argument.context.entries c.in_err-value.field-0.0 meant c.loop-argument-test.true c.argument-item.is c.loop-argument.invariant c.in_err-value.ensures in
    search rules

pub loop-argument-preserved : goal.loop-argument-preserved
loop-argument-preserved g c =
    let look : Name → Val = g.C.Implicits.implicit c.args.caller.now in
    let given : List (Name × Val) = named_arguments c.args.given.now in
    let name = c.in_ok-shared_name.field-0 in
    let value = c.in_ok-into_shared.field-0 in
    let named : name ≡ c.argument-item.result.name = sym (answered _ _ c.in_ok-shared_name.ensures) in
    let shared : value ≡ c.in_ok-value.value = sym (answered _ _ c.in_ok-into_shared.ensures.value) in
    let before : Named Val = c.loop-argument.context.entries in
    c.loop-argument.invariant
    ∙ with_formals_next look given c.deref-argument-items.result.now c.loop-argument.argument-index c.argument-item.result before c.insert.new.self.entries name c.in_ok-value.value c.loop-argument-test.true c.argument-item.is c.in_ok-value.ensures named
    (c.in_ok-old.ensures.entries ∙ name_inserted before name value ∙ ap (λ v. put name v before) shared)
