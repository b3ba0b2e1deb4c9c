use Rattle.std.proofs.Common.{◌≡◌, length, map}
use Rattle.std.specs.List.{zip}
use Rattle.std.specs.Iterator.Adapters.{zip_first, zip_second}
use Rattle.std.specs.Slice.Iter.{iter_rest}
use Rattle.std.specs.Vec.Iter.{into_iter_items}
use Rattle.tera_values.specs.Named.{put_all}
use Rattle.tera_operators.specs.Calls.{by_name}
use Rattle.tera_operators.proofs.calls.arguments.Given as goal

abbrev pub invariant-loop-name : goal.invariant-loop-name
invariant-loop-name l =
    let left = iter_rest (zip_first l.name-iterator) in
    let rest = into_iter_items (zip_second l.name-iterator) in
    (length left ≡ length rest)
    × (by_name (zip l.names l.fn.operands.items) ≡ put_all (map (λ g. (g.0, g.1.value)) (zip left rest)) l.all)
