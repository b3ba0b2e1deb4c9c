use Rattle.std.proofs.Common.{rules, pos, cond, Err}
use Rattle.std.specs.Ordering.{int_eq}
use Rattle.std.specs.Int.{int_div_euclid, int_rem_euclid}
use Rattle.tera_errors.specs.Fault.{message}
use Rattle.tera_values.specs.Number.{within}
use Rattle.tera_operators.proofs.operator.binary.Goals as goal

pub returns-in-Divide-clause-value : goal.returns-in-Divide-clause-value
returns-in-Divide-clause-value c =
    let told = c.division_result.ensures.value (λ a b. cond (int_eq (int_rem_euclid a b) (pos 0)) (within (int_div_euclid a b)) (Err message)) in
    search (rules, told)

pub returns-in-FloorDivide-clause-value : goal.returns-in-FloorDivide-clause-value
returns-in-FloorDivide-clause-value c =
    let told = c.division_result-in-FloorDivide.ensures.value (λ a b. within (int_div_euclid a b)) in
    search (rules, told)

pub returns-in-Remainder-clause-value : goal.returns-in-Remainder-clause-value
returns-in-Remainder-clause-value c =
    let told = c.division_result-in-Remainder.ensures.value (λ a b. within (int_rem_euclid a b)) in
    search (rules, told)
