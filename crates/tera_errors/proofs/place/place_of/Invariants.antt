use Rattle.std.proofs.Common.{◌≡◌, ◌+◌, ◌≤◌, drop}
use Rattle.tera_errors.specs.Places.{lines_ended, column_behind}
use Rattle.tera_errors.proofs.place.place_of.Given as goal

abbrev pub invariant-loop-byte : goal.invariant-loop-byte
invariant-loop-byte l =
    (1 + lines_ended l.byte-items ≡ l.place.line + lines_ended (drop l.byte-index l.byte-items))
    × (column_behind 1 l.byte-items
    ≡ column_behind l.place.column (drop l.byte-index l.byte-items))
    × (l.place.line ≤ l.byte-index + 1) × (l.place.column ≤ l.byte-index + 1)
