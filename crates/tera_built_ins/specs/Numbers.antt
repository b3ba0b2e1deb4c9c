-- Filters of integers.
use Rattle.std.specs.Prelude.{ℤ, pos, false, cond, nat_eq, unsigned_abs, [], Option, Some, None, Result, Ok, Err, codes}
use Rattle.tera_errors.specs.Fault.{Fault, message}
use Rattle.tera_values.specs.Val.{ValOf, int, text}
use Rattle.tera_values.specs.Alphabet.{Alphabet, made}
use Rattle.tera_values.specs.Access.{int_of}
use Rattle.tera_values.specs.Number.{in_range}
use Rattle.tera_values.specs.Named.{Named}
use Rattle.tera_built_ins.specs.Arguments.{◌▸◌, as_bytes, or_default}

-- what is there, or a fault
abbrev pub there : {A : Type 0} → Option A → Result A Fault
there None = Err message
there (Some a) = Ok a

-- the number, or a fault where it is out of range
abbrev pub kept : {C : Type 0} → ℤ → Result (ValOf C) Fault
kept z = cond (in_range z) (Ok (int z)) (Err message)

-- the number without its sign
abbrev pub abs_of : {C : Type 0} → ValOf C → Result (ValOf C) Fault
abs_of v = there (int_of v) ▸ λ z. kept (pos (unsigned_abs z))

module _ {C : Type 0} (alphabet : Alphabet C) where
  -- one ending for 1 and -1, and another for all other numbers
  abbrev pub pluralize_of : ValOf C → Named (ValOf C) → Result (ValOf C) Fault
  pluralize_of v given = or_default [] (as_bytes alphabet) (codes "singular") given ▸ λ singular.
      or_default (codes "s") (as_bytes alphabet) (codes "plural") given ▸ λ plural.
      there (int_of v) ▸ λ z.
      Ok (text (alphabet.spelled made (cond (nat_eq (unsigned_abs z) 1) singular plural)) false)
