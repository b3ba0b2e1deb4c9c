use Rattle.std.proofs.Common.{◌≡◌, length}
use Rattle.std.specs.List.{zip}
use Rattle.std.specs.Iterator.Adapters.{zip_first, zip_second}
use Rattle.std.specs.Slice.Iter.{iter_rest}
use Rattle.std.specs.Vec.Iter.{into_iter_items}
use Rattle.tera_operators.specs.Literals.{array_items}
use Rattle.tera_operators.proofs.Spreading.{finish}
use Rattle.tera_operators.proofs.array_literals.array.Given as goal

abbrev pub invariant-loop-is_spread : goal.invariant-loop-is_spread
invariant-loop-is_spread l =
    let flags = iter_rest (zip_first l.is_spread-iterator) in
    let rest = into_iter_items (zip_second l.is_spread-iterator) in
    (length flags ≡ length rest)
    × (array_items l.file (zip l.spreads l.fn.operands.items) ≡ finish l.file l.items.items l.unfit (array_items l.file (zip flags rest)))
