use Rattle.std.proofs.Common.{rules}
use Rattle.tera_state.proofs.objects.unboxed.UnboxedObjectsObjects.has_test.Goals as goal

pub returns : goal.returns
returns g c = search (rules, c.knows_test.ensures)
