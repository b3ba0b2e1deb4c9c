use Rattle.std.proofs.Common.{Some, sym, ap, subst, ◌∙◌}
use mir.ValLaws.{to_z-of_z}
use Rattle.std.specs.Int.RustNames.{FitsSigned}
use mir.Syntax.{w128}
use Rattle.tera_data.proofs.Numerals.{integer_of-some, integer_of-none}
use Rattle.tera_data.proofs.number.integer_of.Goals as goal

pub returns-in-Ok : goal.returns-in-Ok
returns-in-Ok c =
    ap Some (to_z-of_z w128 c.in-Ok.number (subst (FitsSigned w128) (sym c.in-Ok.ensures.value.0.1) c.in-Ok.ensures.value.0.0.1))
    ∙ ap Some c.in-Ok.ensures.value.0.1
    ∙ integer_of-some c.args.text.now c.in-Ok.ensures.value.0.0

pub returns-in-Err : goal.returns-in-Err
returns-in-Err c = integer_of-none c.args.text.now c.in-Err.ensures.value.0
