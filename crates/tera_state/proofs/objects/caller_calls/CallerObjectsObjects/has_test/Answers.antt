use Rattle.std.proofs.Common.{rules}
use Rattle.tera_state.proofs.objects.caller_calls.CallerObjectsObjects.has_test.Goals as goal

pub returns : goal.returns
returns g c = search (rules, c.knows_test.ensures)
