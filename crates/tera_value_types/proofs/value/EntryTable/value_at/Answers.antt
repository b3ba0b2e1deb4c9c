use Rattle.std.proofs.Common.{◌<◌, length, sym, arith}
use Rattle.tera_value_types.specs.View.{wanted_view, entry_views}
use Rattle.tera_value_types.specs.KeyOrder.{flat, Stands, HasGap}
use Rattle.tera_value_types.proofs.Positions.{not_found}
use Rattle.tera_value_types.proofs.Ordered.{stands_below, stands_found}
use Rattle.tera_value_types.proofs.Entries.{value_of, views_length}
use Rattle.tera_value_types.proofs.value.EntryTable.value_at.Goals as goal

pub returns-in-Ok : goal.returns-in-Ok
returns-in-Ok c =
    let all = c.self.inside.all.items in
    let order = flat c.self.inside.by_key in
    let stands : Stands order (entry_views all) (wanted_view c.args.wanted.now) c.in-Ok.position = rw c.as_slice.ensures.value at c.in-Ok.ensures.found in
    let below = stands_below order (entry_views all) c.self.invariant.index (wanted_view c.args.wanted.now) c.in-Ok.position stands in
    let there : c.in-Ok.position < length all = omega (arith, below, views_length all) in
    rw (← c.self.view_is, stands_found order (entry_views all) c.self.invariant.index (wanted_view c.args.wanted.now) c.in-Ok.position stands, value_of all c.in-Ok.position c.index.result.now there, ← c.index.ensures)

pub returns-in-Err : goal.returns-in-Err
returns-in-Err c =
    let all = c.self.inside.all.items in
    let order = flat c.self.inside.by_key in
    let lacks : HasGap c.self.inside.by_key (entry_views all) (wanted_view c.args.wanted.now) c.in-Err.field-0 = rw c.as_slice.ensures.value at c.in-Err.ensures.absent in
    rw (← c.self.view_is) (sym (not_found order (entry_views all) c.self.invariant.index (wanted_view c.args.wanted.now) _ lacks.gap))
