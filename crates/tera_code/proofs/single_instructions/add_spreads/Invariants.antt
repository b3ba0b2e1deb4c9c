use Rattle.std.proofs.Common.{◌≡◌, ◌++◌, drop}
use Rattle.tera_syntax_tree.specs.View.{items_of}
use Rattle.tera_code.specs.Code.{spreads_of}
use Rattle.tera_code.specs.Packed.{Longer}
use Rattle.tera_code.proofs.single_instructions.add_spreads.Given as goal

abbrev pub invariant-loop-item : goal.invariant-loop-item
invariant-loop-item l =
    Longer l.initial.flags.items l.flags.items
    × (l.flags.items ++ spreads_of (items_of (drop l.item-index l.items)) ≡ l.initial.flags.items ++ spreads_of (items_of l.items))
