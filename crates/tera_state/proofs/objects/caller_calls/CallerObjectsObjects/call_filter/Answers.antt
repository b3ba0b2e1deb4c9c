use Rattle.tera_state.proofs.Called.{filter-stored, no-filter}
use Rattle.tera_state.proofs.objects.caller_calls.CallerObjectsObjects.call_filter.Goals as goal

pub returns-in_default : goal.returns-in_default
returns-in_default g c =
    no-filter _ _ c.args.self.now c.args.call c.args.value.now c.filter.result c.filter.ensures c.message.result c.in_default.is c.message.ensures

pub returns : goal.returns
returns g c =
    filter-stored _ _ c.args.self.now c.args.call c.args.value.now c.filter.result c.filter.ensures _
    c.state_of_call-state.ensures c.in-Some.is c.is_safe.ensures (c.mark_if.ensures _ c.call.ensures)
