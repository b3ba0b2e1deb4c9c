-- What templates call by name.
use Rattle.std.specs.Prelude.{ℕ, suc, zero, ℤ, pos, negsuc, ◌-◌, ◌/◌, ◌+ℤ◌, ◌-ℤ◌, ◌*ℤ◌, ◌&&◌, cond, nat_lt, int_lt, unsigned_abs, List, map as each, Result, Ok, Err, codes}
use Rattle.std.specs.List.{range_with_len}
use Rattle.tera_errors.specs.Fault.{Fault, message}
use Rattle.tera_values.specs.Val.{ValOf, int, array, vals}
use Rattle.tera_values.specs.Number.{in_range}
use Rattle.tera_values.specs.Named.{Named}
use Rattle.tera_built_ins.specs.Arguments.{◌▸◌, as_integer, as_text, needed, or_default}

-- how many strides a distance takes, the last of which may lead beyond it. There is to be room for
-- the distance, and for what a division rounds up by
abbrev pub strides : ℤ → ℕ → Result ℕ Fault
strides distance stride = let rounded = distance +ℤ pos (stride - 1) in
    cond (in_range distance && in_range rounded) (Ok (unsigned_abs rounded / stride)) (Err message)

-- how many numbers there are from the start on by the step, before the end
abbrev pub counted : ℤ → ℤ → ℤ → Result ℕ Fault
counted start end (pos zero) = Err message
counted start end (pos (suc n)) =
    cond (int_lt end start) (Err message) (strides (end -ℤ start) (suc n))
counted start end (negsuc n) = cond (int_lt end start) (strides (start -ℤ end) (suc n)) (Ok 0)

-- no more than a range may have
abbrev pub few : ℕ → Result ℕ Fault
few count = cond (nat_lt 100000 count) (Err message) (Ok count)

-- as many numbers from the start on, each a step behind the one before
abbrev pub stepping : {C : Type 0} → ℤ → ℤ → ℕ → List (ValOf C)
stepping start step count =
    each (λ position. int (start +ℤ (step *ℤ pos position))) (range_with_len 0 count)

abbrev pub range_of : {C : Type 0} → Named (ValOf C) → Result (ValOf C) Fault
range_of given = or_default (pos 0) as_integer (codes "start") given ▸ λ start.
    needed as_integer (codes "end") given ▸ λ end.
    or_default (pos 1) as_integer (codes "step_by") given ▸ λ step.
    counted start end step ▸ λ count.
    few count ▸ λ count.
    Ok (array (vals (stepping start step count)))

-- refused, whatever the message
abbrev pub throw_of : {C : Type 0} → Named (ValOf C) → Result (ValOf C) Fault
throw_of given = needed as_text (codes "message") given ▸ λ words. Err message
