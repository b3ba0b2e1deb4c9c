-- What stands in for a value.
use Rattle.std.specs.Prelude.{false, cond, not, Result, Ok, codes}
use Rattle.tera_errors.specs.Fault.{Fault}
use Rattle.tera_values.specs.Val.{ValOf}
use Rattle.tera_values.specs.Access.{is_undefined, truthy}
use Rattle.tera_values.specs.Named.{Named}
use Rattle.tera_built_ins.specs.Arguments.{◌▸◌, as_any, as_bool, needed, or_default}

-- another value where this one is undefined; by `boolean`, where it is false
abbrev pub default_of : {C : Type 0} → ValOf C → Named (ValOf C) → Result (ValOf C) Fault
default_of v given = needed as_any (codes "value") given ▸ λ value.
    or_default false as_bool (codes "boolean") given ▸ λ boolean.
    Ok (cond (cond boolean (not (truthy v)) (is_undefined v)) value v)
