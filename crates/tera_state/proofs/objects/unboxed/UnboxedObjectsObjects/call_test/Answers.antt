use Rattle.std.proofs.Common.{◌∙◌}
use Rattle.tera_state.specs.Scopes.{around_of, variables_of}
use Rattle.tera_state.proofs.Called.{lent-html, test-stored, no-test}
use Rattle.tera_state.proofs.objects.unboxed.UnboxedObjectsObjects.call_test.Goals as goal

pub returns-in_default : goal.returns-in_default
returns-in_default g c =
    no-test _ _ c.args.self.now c.args.call _ c.args.value.now c.test.result c.test.ensures c.message.result c.in_default.is c.message.ensures

pub returns : goal.returns
returns g c =
    test-stored _ _ c.args.self.now c.args.call _ c.args.value.now c.test.result c.test.ensures _
    (c.state-state.ensures ∙ lent-html (around_of c.args.call.scopes.now) (variables_of c.args.call.scopes.now) c.args.call.autoescape c.args.self.now.escape _ _ c.as_slice.ensures.value)
    c.in-Some.is c.call.ensures
