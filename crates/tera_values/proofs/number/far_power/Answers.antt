use Rattle.std.proofs.Common.{◌≡◌, ◌%◌, ℤ, pos, negsuc, unsigned_abs, sym, ap, ◌∙◌, arith, rules}
use Rattle.std.proofs.lemmas.Int.{ints}
use Rattle.tera_values.specs.Number.{power}
use Rattle.tera_values.proofs.Powers.{far, of_zero, of_one, of_minus_one_even, of_minus_one_odd}
use Rattle.tera_values.proofs.number.far_power.Goals as goal

pub returns-then-a-neminus1 : goal.returns-then-a-neminus1
returns-then-a-neminus1 c = sym (far c.args.a c.args.b c.requires (λ e. omega (arith, ints, e)) (λ e. omega (arith, ints, e)) (λ e. omega (arith, ints, e)))

pub returns-then-a-eq0 : goal.returns-then-a-eq0
returns-then-a-eq0 c =
    let is : c.args.a ≡ pos 0 = omega (arith, ints) in
    sym (ap (λ (z : ℤ). power z c.args.b) is ∙ of_zero c.args.b c.requires)

pub returns-then-a-eq1 : goal.returns-then-a-eq1
returns-then-a-eq1 c =
    let is : c.args.a ≡ pos 1 = omega (arith, ints) in
    sym (ap (λ (z : ℤ). power z c.args.b) is ∙ of_one c.args.b c.requires)

pub returns-then-unsigned_abs-eq0 : goal.returns-then-unsigned_abs-eq0
returns-then-unsigned_abs-eq0 c =
    let is : c.args.a ≡ negsuc 0 = omega (arith, ints) in
    let even : unsigned_abs c.args.b % 2 ≡ 0 = search rules in
    sym (ap (λ (z : ℤ). power z c.args.b) is ∙ of_minus_one_even c.args.b c.requires even)

pub returns-else-unsigned_abs-eq0 : goal.returns-else-unsigned_abs-eq0
returns-else-unsigned_abs-eq0 c =
    let is : c.args.a ≡ negsuc 0 = omega (arith, ints) in
    let odd : unsigned_abs c.args.b % 2 ≡ 0 → ⊥ = search rules in
    sym (ap (λ (z : ℤ). power z c.args.b) is ∙ of_minus_one_odd c.args.b c.requires odd)
