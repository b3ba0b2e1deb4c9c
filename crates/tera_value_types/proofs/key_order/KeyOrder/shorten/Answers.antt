use Rattle.std.proofs.Common.{◌≡◌, ◌+◌, ◌-◌, ◌<◌, length, arith}
use Rattle.tera_value_types.proofs.Pieces.{short_later}
use Rattle.tera_value_types.proofs.key_order.KeyOrder.shorten.Goals as goal

pub returns-else-number-eq0 : goal.returns-else-number-eq0
returns-else-number-eq0 c =
    let o = c.args.self.now in
    let m = c.args.number - 1 in
    let next : c.args.number ≡ m + 1 = omega arith in
    let there : m < length o.rest.items = omega (arith, c.requires) in
    short_later o.first.items o.rest.items c.args.number m c.index_mut.result.now c.truncate-else-number-eq0.new.self next there c.index_mut.ensures.value 128 c.truncate-else-number-eq0.ensures.items
