-- Whether integers lie between bounds.
use Rattle.std.specs.Prelude.{pos, ◌&&◌, not, int_lt, Bool, Result, Ok, codes}
use Rattle.tera_errors.specs.Fault.{Fault}
use Rattle.tera_values.specs.Val.{Val}
use Rattle.tera_values.specs.Named.{Named}
use Rattle.tera_built_ins.specs.Arguments.{◌▸◌, as_integer, needed, or_default}

-- from the start on, and before the end
abbrev pub in_range_of : Val → Named Val → Result Bool Fault
in_range_of v given =
    as_integer v ▸ λ z.
    or_default (pos 0) as_integer (codes "start") given ▸ λ start.
    needed as_integer (codes "end") given ▸ λ end.
    Ok (not (int_lt z start) && int_lt z end)
