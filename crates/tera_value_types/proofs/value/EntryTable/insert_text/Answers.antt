use Rattle.std.proofs.Common.{◌∙◌, refl}
use Rattle.tera_value_types.specs.Val.{ktext}
use Rattle.tera_value_types.specs.View.{entry_views}
use Rattle.tera_value_types.specs.KeyOrder.{flat, Stands, HasGap}
use Rattle.tera_value_types.proofs.Positions.{not_there}
use Rattle.tera_value_types.proofs.Ordered.{stands_written}
use Rattle.tera_value_types.proofs.value.EntryTable.insert_text.Goals as goal

pub returns-in_err-name-in-Err-clause-there : goal.returns-in_err-name-in-Err-clause-there
returns-in_err-name-in-Err-clause-there c some =
    let lacks : HasGap c.self.inside.by_key (entry_views c.self.inside.all.items) (ktext c.args.name.now) c.in-Err.field-0 = rw c.as_slice.ensures.value at c.in-Err.ensures.absent in
    absurd (not_there _ _ c.self.invariant.index refl c.self.view_is lacks.gap some)

pub returns-in-Ok-clause-ok : goal.returns-in-Ok-clause-ok
returns-in-Ok-clause-ok c =
    let all = c.self.inside.all.items in
    let order = flat c.self.inside.by_key in
    let i = c.in-Ok.position in
    let stands : Stands order (entry_views all) (ktext c.args.name.now) i = rw c.as_slice.ensures.value at c.in-Ok.ensures.found in
    c.write.ensures ∙ stands_written order (entry_views all) c.self.invariant.index (ktext c.args.name.now) i stands c.self.view_is c.args.value
