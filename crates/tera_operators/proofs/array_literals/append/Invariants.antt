use Rattle.std.proofs.Common.{◌≡◌, ◌++◌, take}
use Rattle.tera_operators.proofs.array_literals.append.Given as goal

abbrev pub invariant-loop-item : goal.invariant-loop-item
invariant-loop-item l = l.all.items ≡ l.initial.all.items ++ take l.item-index l.items
