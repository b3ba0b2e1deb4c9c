-- Filters of arrays that answer one item.
use Rattle.std.specs.Prelude.{◌^◌, ◌-◌, length, slice_get, Option, Some, None, Result, Ok, codes}
use Rattle.tera_errors.specs.Fault.{Fault}
use Rattle.tera_values.specs.Val.{ValOf, none}
use Rattle.tera_values.specs.Named.{Named}
use Rattle.tera_built_ins.specs.Arguments.{◌▸◌, as_array, as_natural, needed}

module _ {C : Type 0} where
  -- the item, or none where there is none
  abbrev pub or_none : Option (ValOf C) → ValOf C
  or_none None = none
  or_none (Some v) = v

  abbrev pub first_of : ValOf C → Result (ValOf C) Fault
  first_of v = as_array v ▸ λ vs. Ok (or_none (slice_get vs 0))

  abbrev pub last_of : ValOf C → Result (ValOf C) Fault
  last_of v = as_array v ▸ λ vs. Ok (or_none (slice_get vs (length vs - 1)))

  -- the item at a position, where the first position is 0
  abbrev pub nth_of : ValOf C → Named (ValOf C) → Result (ValOf C) Fault
  nth_of v given =
      as_array v ▸ λ vs. needed (as_natural (2 ^ 64)) (codes "n") given ▸ λ n.
      Ok (or_none (slice_get vs n))
