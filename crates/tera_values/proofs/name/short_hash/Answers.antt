use Rattle.std.proofs.Common.{◌<◌, ◌^◌, arith}
use Rattle.tera_values.proofs.Hashes.{packed_lt}
use Rattle.tera_values.proofs.name.short_hash.Goals as goal

small : (c : goal.After-pack_bytes-number) → c.pack_bytes-number.result < 2 ^ 57
small c = omega (arith, c.pack_bytes-number.ensures, packed_lt c.args.text.now c.type_inv.text c.requires)

pub overflow_mul-result : goal.overflow_mul-result
overflow_mul-result c = omega (arith, small c)

pub overflow_add-result : goal.overflow_add-result
overflow_add-result c = omega (arith, small c)
