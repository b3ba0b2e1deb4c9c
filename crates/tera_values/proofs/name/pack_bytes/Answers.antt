use Rattle.std.proofs.Common.{◌≡◌, ◌<◌, get_or, length, ap, ◌∙◌, arith}
use Rattle.tera_values.proofs.Hashes.{packed_next}
use Rattle.tera_values.proofs.name.pack_bytes.Goals as goal

pub overflow_mul-number : goal.overflow_mul-number
overflow_mul-number c =
    let l : c.loop-byte.byte-index < length c.args.text.now = omega (arith, ap length c.as_bytes-byte-items.ensures.value, c.loop-byte-test.true) in
    let h = packed_next c.args.text.now c.loop-byte.byte-index c.loop-byte.number c.type_inv.text c.requires l c.loop-byte.invariant in
    omega arith

pub overflow_add-number : goal.overflow_add-number
overflow_add-number c =
    let l : c.loop-byte.byte-index < length c.args.text.now = omega (arith, ap length c.as_bytes-byte-items.ensures.value, c.loop-byte-test.true) in
    let h = packed_next c.args.text.now c.loop-byte.byte-index c.loop-byte.number c.type_inv.text c.requires l c.loop-byte.invariant in
    let byte : c.from.result ≡ get_or c.args.text.now c.loop-byte.byte-index 0 = c.from.ensures ∙ ap (λ bs. get_or bs c.loop-byte.byte-index 0) c.as_bytes-byte-items.ensures.value in
    omega arith
