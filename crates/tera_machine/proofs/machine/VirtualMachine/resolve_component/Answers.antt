use Rattle.tera_components.specs.Definition.{named_arguments}
use Rattle.tera_state.specs.Scopes.{variables_of}
use Rattle.tera_registry.specs.HandedOut.{code_of}
use Rattle.tera_machine.specs.Subject.{place_at}
use Rattle.tera_machine.proofs.Calling.{too_deep}
use Rattle.tera_machine.proofs.machine.VirtualMachine.resolve_component.Goals as goal

pub returns-then-self-ge-MAX_DEPTH : goal.returns-then-self-ge-MAX_DEPTH
returns-then-self-ge-MAX_DEPTH g c = λ blocks.
    let asked = c.args.asked in
    let place = place_at c.args.self.now (code_of c.args.here).file blocks c.args.configuration.now in
    too_deep g.M.Limit.world place asked.name.now (named_arguments asked.given) asked.body asked.span (variables_of c.args.configuration.now.scopes)
    c.in-Some.component c.in-Some.ensures.defined c.in-Ok.context c.in-Ok.ensures c.too_deep_component.result c.if-self-ge-MAX_DEPTH.true c.too_deep_component.ensures
