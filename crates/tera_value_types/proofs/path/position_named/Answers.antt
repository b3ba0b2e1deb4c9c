use Rattle.std.proofs.Common.{◌≡◌, ℕ, ◌<◌, ◌≤◌, ◌+◌, ◌*◌, ◌-◌, length, drop, get_or, ap, sym, ◌∙◌, arith, rules}
use Rattle.tera_value_types.specs.Paths.{number}
use Rattle.tera_value_types.proofs.Walks.{more_digits, number_more, number_grows}
use Rattle.tera_value_types.proofs.path.position_named.Goals as goal
use Rattle.tera_value_types.proofs.path.position_named.Goals.{then-value-length, else-value-length}

pub loop-digit-preserved : goal.loop-digit-preserved
loop-digit-preserved c =
    let ds = c.args.digits.now in
    let i = c.loop-digit.digit-index in
    let h : i < length ds = search rules in
    let low : 48 ≤ get_or ds i 0 = omega arith in
    let high : get_or ds i 0 ≤ 57 = omega arith in
    let after = drop (i + 1) ds in
    elim c.if-value-length.branch [
      | then-value-length w ↦
          let v = c.loop-digit.value * 10 + (get_or ds i 0 - 48) in
          let is : c.if-value-length.value ≡ v = w.value-is in
          let all : number 0 ds ≡ number v after = c.loop-digit.invariant.small w.if-value-length.true ∙ number_more c.loop-digit.value ds i h in
          record {
            digits = c.loop-digit.invariant.digits ∙ more_digits ds i h low high;
            small = λ _. all ∙ ap (λ (n : ℕ). number n after) (sym is);
            large = λ g. omega (arith, g, is, all, number_grows v after);
          }
      | else-value-length w ↦
          let is : c.if-value-length.value ≡ c.loop-digit.value = w.value-is in
          record {
            digits = c.loop-digit.invariant.digits ∙ more_digits ds i h low high;
            small = λ g. absurd (omega (arith, g, is, w.if-value-length.false));
            large = λ _. c.loop-digit.invariant.large w.if-value-length.false;
          }
    ]
