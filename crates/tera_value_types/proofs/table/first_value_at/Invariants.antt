use Rattle.std.proofs.Common.{◌≡◌, drop}
use Rattle.tera_value_types.specs.Val.{ktext}
use Rattle.tera_value_types.specs.View.{entry_views}
use Rattle.tera_value_types.specs.Access.{find}
use Rattle.tera_value_types.proofs.table.first_value_at.Given as goal

abbrev pub invariant-loop-entry : goal.invariant-loop-entry
invariant-loop-entry l = find (ktext l.name) (entry_views (drop l.entry-index l.all)) ≡ find (ktext l.name) (entry_views l.all)
