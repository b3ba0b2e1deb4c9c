use Rattle.std.proofs.Common.{◌≡◌, [], length, map as map_list}
use Rattle.std.specs.List.{zip}
use Rattle.std.specs.Iterator.Adapters.{zip_first, zip_second}
use Rattle.std.specs.Slice.Iter.{iter_rest}
use Rattle.std.specs.Vec.Iter.{into_iter_items}
use Rattle.tera_syntax_tree.specs.View.{key_option}
use Rattle.tera_operators.specs.Literals.{from_left}
use Rattle.tera_operators.proofs.map_literals.map_from_left.Given as goal

abbrev pub invariant-loop-key : goal.invariant-loop-key
invariant-loop-key l =
    let left = iter_rest (zip_first l.key-iterator) in
    let rest = into_iter_items (zip_second l.key-iterator) in
    (length left ≡ length rest)
    × (from_left [] (zip (map_list key_option l.keys) l.fn.operands.items) ≡ from_left l.all (zip (map_list key_option left) rest))
