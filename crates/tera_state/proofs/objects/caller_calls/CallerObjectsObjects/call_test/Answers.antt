use Rattle.tera_state.proofs.Called.{test-stored, no-test}
use Rattle.tera_state.proofs.objects.caller_calls.CallerObjectsObjects.call_test.Goals as goal

pub returns-in_default : goal.returns-in_default
returns-in_default g c =
    no-test _ _ c.args.self.now c.args.call _ c.args.value.now c.test.result c.test.ensures c.message.result c.in_default.is c.message.ensures

pub returns : goal.returns
returns g c =
    test-stored _ _ c.args.self.now c.args.call _ c.args.value.now c.test.result c.test.ensures _
    c.state_of_call-state.ensures c.in-Some.is c.call.ensures
