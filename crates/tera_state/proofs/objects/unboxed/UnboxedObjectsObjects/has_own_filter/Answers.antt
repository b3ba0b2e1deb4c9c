use Rattle.std.proofs.Common.{rules}
use Rattle.tera_state.proofs.objects.unboxed.UnboxedObjectsObjects.has_own_filter.Goals as goal

pub returns : goal.returns
returns g c = search (rules, c.has_registered_filter.ensures)
