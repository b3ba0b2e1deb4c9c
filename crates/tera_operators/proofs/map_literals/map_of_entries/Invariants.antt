use Rattle.std.proofs.Common.{◌≡◌, ◌≤◌, Ok, length, map as map_list}
use Rattle.std.specs.List.{zip}
use Rattle.tera_syntax_tree.specs.View.{key_option}
use Rattle.tera_operators.specs.Literals.{map_entries}
use Rattle.tera_operators.proofs.Keeping.{onto}
use Rattle.tera_operators.proofs.map_literals.map_of_entries.Given as goal

abbrev pub decreases-loop-operand : goal.decreases-loop-operand
decreases-loop-operand l = length l.operands.items

abbrev pub invariant-loop-operand : goal.invariant-loop-operand
invariant-loop-operand l =
    (length l.operands.items ≤ length l.keys)
    × (map_entries l.file (zip (map_list key_option l.keys) l.fn.operands.items) ≡ onto l.file (zip (map_list key_option l.keys) l.operands.items) (Ok l.all))
