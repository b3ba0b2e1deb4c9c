use Rattle.std.proofs.Common.{Some, sym, ap, subst, ◌∙◌}
use mir.ValLaws.{to_z-of_z}
use Rattle.std.specs.Int.RustNames.{FitsSigned}
use mir.Syntax.{w128}
use Rattle.tera_run_script.proofs.Numbers.{integer-some, integer-none}
use Rattle.tera_run_script.proofs.script.integer.Goals as goal

pub returns-in-Ok : goal.returns-in-Ok
returns-in-Ok c =
    ap Some (to_z-of_z w128 c.in-Ok.number (subst (FitsSigned w128) (sym c.in-Ok.ensures.value.0.1) c.in-Ok.ensures.value.0.0.1))
    ∙ integer-some c.args.field.now c.in-Ok.number (sym c.has_plus.ensures ∙ c.if-has_plus.false) c.in-Ok.ensures.value.0.0 c.in-Ok.ensures.value.0.1

pub returns-in-Err : goal.returns-in-Err
returns-in-Err c =
    integer-none c.args.field.now (sym c.has_plus.ensures ∙ c.if-has_plus.false) c.in-Err.ensures.value.0
