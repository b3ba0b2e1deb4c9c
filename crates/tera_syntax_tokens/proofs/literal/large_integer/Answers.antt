use Rattle.std.proofs.Common.{◌≡◌, ◌≤◌, ◌<◌, ◌+◌, ◌-◌, ◌*◌, None, get_or, length, ap, ◌∙◌, arith}
use Rattle.tera_syntax_tokens.proofs.Positions.{by_order}
use Rattle.tera_syntax_tokens.proofs.Literals.{too_large}
use Rattle.tera_syntax_tokens.proofs.literal.large_integer.Goals as goal

pub returns-in_err-checked_mul : goal.returns-in_err-checked_mul
returns-in_err-checked_mul c =
    let l : c.loop-b.b-index < length c.args.digits.now = omega (arith, ap length c.as_bytes-b-items.ensures.value) in
    let big : 340282366920938463463374607431768211456 ≤ c.loop-b.number * 10 = by_order (c.loop-b.number * 10) 340282366920938463463374607431768211456 (λ s. absurd (c.in_err-checked_mul.ensures s)) (λ s. s) in
    let gone : c.from_residual.result ≡ None = grind arith in
    gone ∙ too_large c.loop-b.number c.loop-b.b-index c.args.digits.now l c.loop-b.invariant (omega arith)

pub returns-in_err-number : goal.returns-in_err-number
returns-in_err-number c =
    let l : c.loop-b.b-index < length c.args.digits.now = omega (arith, ap length c.as_bytes-b-items.ensures.value) in
    let big : 340282366920938463463374607431768211456 ≤ c.in_ok-checked_mul.field-0 + c.from-digit.result =
    by_order (c.in_ok-checked_mul.field-0 + c.from-digit.result) 340282366920938463463374607431768211456 (λ s. absurd (c.in_err-number.ensures s)) (λ s. s) in
    let d : c.from-digit.result ≡ get_or c.args.digits.now c.loop-b.b-index 0 - 48 =
    c.from-digit.ensures ∙ c.saturating_sub.ensures ∙ ap (λ bs. get_or bs c.loop-b.b-index 0 - 48) c.as_bytes-b-items.ensures.value in
    let e = c.in_ok-checked_mul.ensures.1 in
    let gone : c.from_residual-in_err-number.result ≡ None = grind arith in
    gone ∙ too_large c.loop-b.number c.loop-b.b-index c.args.digits.now l c.loop-b.invariant (omega arith)
