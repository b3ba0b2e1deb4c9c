use Rattle.tera_state.specs.declared.frame.FrameKind.TheVariants as standing
use Rattle.tera_state.proofs.Steps.{begins, begins_under}
use Rattle.tera_state.proofs.scopes.Scopes.enter_component.Goals as goal

pub returns-clause-around : goal.returns-clause-around
returns-clause-around c = begins_under c.args.self.now c.enter.new.self (standing.Component c.args.arguments) c.enter.result c.enter.ensures.frame c.enter.ensures.below c.enter.ensures.bindings

pub returns-clause-variables : goal.returns-clause-variables
returns-clause-variables c = begins c.args.self.now c.enter.new.self (standing.Component c.args.arguments) c.enter.result c.enter.ensures.frame c.enter.ensures.below c.enter.ensures.bindings
