use Rattle.std.proofs.Common.{◌∙◌, sym}
use Rattle.tera_state.proofs.Finds.{whole_context, called_context}
use Rattle.tera_state.proofs.scopes.own_context.Goals as goal

pub returns-in-Template : goal.returns-in-Template
returns-in-Template c = λ below. c.context.ensures ∙ sym (whole_context c.args.standing.now _ below c.in-Template.is)

pub returns-in-Component : goal.returns-in-Component
returns-in-Component c = λ below. c.of_arguments.ensures ∙ sym (called_context c.args.standing.now _ below c.in-Component.is)
