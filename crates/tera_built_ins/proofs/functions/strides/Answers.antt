use Rattle.std.proofs.Common.{◌≡◌, ◌-◌, ◌/◌, ◌∙◌, ap, arith, subst, sym, to_z, of_z}
use Rattle.std.proofs.lemmas.Int.{ints}
use Rattle.std.specs.Prelude.{ℕ, pos, ◌+ℤ◌, ◌-ℤ◌, unsigned_abs}
use mir.Syntax.{w128}
use Rattle.tera_built_ins.specs.Rooms.{EachIsBelow}
use Rattle.tera_built_ins.proofs.Ranges.{strides-below}
use Rattle.tera_built_ins.proofs.functions.strides.Goals as goal

-- src/functions.rt
pub returns-in-Some-checked_add-clause-below : goal.returns-in-Some-checked_add-clause-below
returns-in-Some-checked_add-clause-below c =
    let rounded : to_z w128 (of_z w128 c.in-Some-checked_add.rounded) ≡ (c.args.high -ℤ c.args.low) +ℤ pos (c.args.stride - 1) = omega (arith, ints, c.in-Some.ensures, c.in-Some-checked_add.ensures) in
    let e : c.unsigned_abs.result ≡ unsigned_abs ((c.args.high -ℤ c.args.low) +ℤ pos (c.args.stride - 1)) = c.unsigned_abs.ensures.value ∙ ap unsigned_abs rounded in
    subst (λ (n : ℕ). EachIsBelow (c.args.high -ℤ c.args.low) c.args.stride (n / c.args.stride)) (sym e)
    (strides-below (c.args.high -ℤ c.args.low) c.args.stride (omega (arith, ints)) c.requires.some)
