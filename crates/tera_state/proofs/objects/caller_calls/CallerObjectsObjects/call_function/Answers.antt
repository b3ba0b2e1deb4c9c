use Rattle.tera_state.proofs.Called.{function-stored, no-function}
use Rattle.tera_state.proofs.objects.caller_calls.CallerObjectsObjects.call_function.Goals as goal

pub returns-in_default : goal.returns-in_default
returns-in_default g c =
    no-function _ _ c.args.self.now c.args.call _ c.function.result c.function.ensures c.message.result c.in_default.is c.message.ensures

pub returns : goal.returns
returns g c =
    function-stored _ _ c.args.self.now c.args.call _ c.function.result c.function.ensures _
    c.state_of_call-state.ensures c.in-Some.is c.is_safe.ensures (c.mark_if.ensures _ c.call.ensures)
