use Rattle.std.proofs.Common.{◌≡◌, ◌<◌, ◌≤◌, ◌+◌, ◌*◌, false, length, drop, arith, ap, sym, ◌∙◌}
use Rattle.std.specs.Prelude.{nat_lt}
use Rattle.std.proofs.Math.Nat.{mul-le-mul}
use Rattle.tera_filters.specs.FileSizes.{base, prefixes, hundredths, in_first_unit}
use Rattle.tera_filters.proofs.Measuring.{limit-next, limit-small, not_fewer, unit-passed}
use Rattle.tera_filters.proofs.file_sizes.in_first_unit.Goals as goal

pub hundredths-count-requires-clause-high : goal.hundredths-count-requires-clause-high
hundredths-count-requires-clause-high c =
    let few : c.loop-prefix.prefix-index < 7 = omega (arith, ap length c.as_bytes-prefix-items.ensures.value) in
    omega (arith, c.loop-prefix.invariant.high, limit-small c.loop-prefix.prefix-index (omega arith))

pub overflow_mul-size : goal.overflow_mul-size
overflow_mul-size c =
    let few : c.loop-prefix.prefix-index < 7 = omega (arith, ap length c.as_bytes-prefix-items.ensures.value) in
    let next = limit-next c.loop-prefix.prefix-index c.loop-prefix.size c.base-base.result c.loop-prefix.invariant.high c.base-base.ensures.high in
    omega (arith, next, limit-small (c.loop-prefix.prefix-index + 1) (omega arith))

pub loop-prefix-preserved : goal.loop-prefix-preserved
loop-prefix-preserved c =
    let binary = c.args.binary in
    let n = c.args.number in
    let size = c.loop-prefix.size in
    let ps = prefixes c.args.binary in
    let i = c.loop-prefix.prefix-index in
    let few : c.loop-prefix.prefix-index < 7 = omega (arith, ap length c.as_bytes-prefix-items.ensures.value) in
    let within : c.loop-prefix.prefix-index < length (prefixes c.args.binary) = omega (arith, ap length c.prefixes.ensures.value) in
    let some : 1 ≤ c.base-base.result = omega arith in
    let many : nat_lt (hundredths c.loop-prefix.size c.args.number) (base c.args.binary * 100) ≡ false
    = not_fewer (hundredths c.loop-prefix.size c.args.number) (base c.args.binary * 100) (omega (arith, c.hundredths-count.ensures, c.base-base.ensures.value)) in
    record {
      low = omega (arith, mul-le-mul c.loop-prefix.invariant.low some);
      high = limit-next i size c.base-base.result c.loop-prefix.invariant.high c.base-base.ensures.high;
      found = ap (λ k. in_first_unit binary n (size * k) (drop (i + 1) ps)) c.base-base.ensures.value ∙ sym (unit-passed binary n size ps i within many) ∙ c.loop-prefix.invariant.found;
    }
