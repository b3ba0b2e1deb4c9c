use Rattle.std.proofs.Common.{List, ap, ◌∙◌, subst}
use Rattle.tera_errors.specs.Answer.{Gives}
use Rattle.tera_errors.specs.Site.{Name}
use Rattle.tera_values.specs.Val.{Val}
use Rattle.tera_values.specs.Named.{Named}
use Rattle.tera_components.specs.Context.{component_context}
use Rattle.tera_components.specs.Definition.{named_arguments, or_message}
use Rattle.tera_components.proofs.Arguments.{named_arguments-map}
use Rattle.tera_components.proofs.definition.ComponentDefinition.bind_by_name.Goals as goal

pub returns : goal.returns
returns g c = λ s e.
    let look : Name → Val = g.C.Implicits.implicit c.args.caller.now in
    subst (λ (given : List (Name × Val)). Gives (λ (m : Named Val). m) c.bind.result (or_message (component_context s given c.args.body look)))
    (ap named_arguments c.of_map-entries.ensures ∙ named_arguments-map c.args.given.now _ c.in_ok-given.ensures)
    (c.bind.ensures s e)
