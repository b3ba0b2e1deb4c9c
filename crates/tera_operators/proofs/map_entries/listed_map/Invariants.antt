use Rattle.std.proofs.Common.{◌≡◌, length, map as map_list}
use Rattle.std.specs.List.{zip}
use Rattle.std.specs.Iterator.Adapters.{zip_first, zip_second}
use Rattle.std.specs.Slice.Iter.{iter_rest}
use Rattle.tera_syntax_tree.specs.View.{key_option}
use Rattle.tera_operators.specs.Literals.{from_left}
use Rattle.tera_operators.specs.Entries.{listed}
use Rattle.tera_operators.proofs.map_entries.listed_map.Given as goal

abbrev pub invariant-loop-key : goal.invariant-loop-key
invariant-loop-key l =
    let left = iter_rest (zip_first l.key-iterator) in
    let rest = iter_rest (zip_second l.key-iterator) in
    (length left ≡ length rest)
    × (listed l.keys l.operands ≡ from_left l.all (zip (map_list key_option left) rest))
