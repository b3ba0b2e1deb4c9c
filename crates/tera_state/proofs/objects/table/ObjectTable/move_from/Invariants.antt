use Rattle.tera_state.specs.Table.{listed}
use Rattle.tera_state.proofs.Listed.{by_bytes, GoneThrough}
use Rattle.tera_state.proofs.objects.table.ObjectTable.move_from.Given as goal

abbrev pub invariant-loop-name : goal.invariant-loop-name
invariant-loop-name g l =
    (goal.iterator-loop-name g).can_next l.name-iterator ×
    (goal.iterator-loop-name g).is_finite l.name-iterator ×
    GoneThrough g.S.BuiltInKind.stands (listed l.fn.other) (listed l.fn.self) (by_bytes l.name-iterator) (listed l.self)
