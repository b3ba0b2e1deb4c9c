use Rattle.std.proofs.Common.{◌≡◌, drop}
use Rattle.tera_state.specs.Prelude.{Meanings, engine_of}
use Rattle.tera_filters.specs.Pack.{in_extra, rows_of, with_filters}
use Rattle.tera_filters.proofs.objects.put_filters.Given as goal

abbrev pub invariant-loop-row : goal.invariant-loop-row
invariant-loop-row g l =
    (m : Meanings _ _ _ _) → with_filters (in_extra m.filter) (rows_of (drop l.row-index l.rows)) (engine_of m l.objects) ≡ with_filters (in_extra m.filter) (rows_of l.rows) (engine_of m l.fn.objects)
