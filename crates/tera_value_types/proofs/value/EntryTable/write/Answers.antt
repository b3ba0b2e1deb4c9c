use Rattle.std.proofs.Common.{◌≡◌, ◌<◌, length, set, refl, ap, ◌∙◌, arith}
use Rattle.tera_value_types.specs.View.{entry_views}
use Rattle.tera_value_types.specs.Index.{IsIndex, key_at}
use Rattle.tera_value_types.specs.KeyOrder.{flat}
use Rattle.tera_value_types.specs.declared.value.Entry.{Entry}
use Rattle.tera_value_types.proofs.Positions.{Pairs, kept}
use Rattle.tera_value_types.proofs.Entries.{views_length, write_views}
use Rattle.tera_value_types.proofs.value.EntryTable.write.Goals as goal

pub invariant_of-self : goal.invariant_of-self
invariant_of-self c =
    let all = c.self.inside.all.items in
    let order = flat c.self.inside.by_key in
    let i = c.args.position in
    let there : i < length all = omega (arith, c.requires, ap length c.self.view_is, views_length all) in
    let e : Entry = record { key = c.index_mut.result.now.key; value = c.replace-old.new.dest } in
    let same : IsIndex order (entry_views (set all i e)) = rw (write_views all i c.index_mut.result.now c.args.value there c.index_mut.ensures.value e refl c.replace-old.ensures.after) (kept order (entry_views all) c.self.invariant.index i c.args.value) in
    record { full = c.self.invariant.full; index = same }

pub returns : goal.returns
returns c =
    let all = c.self.inside.all.items in
    let i = c.args.position in
    let there : i < length all = omega (arith, c.requires, ap length c.self.view_is, views_length all) in
    let e : Entry = record { key = c.index_mut.result.now.key; value = c.replace-old.new.dest } in
    let step : entry_views (set all i e) ≡ set (entry_views all) i (key_at (entry_views all) i, c.args.value) = write_views all i c.index_mut.result.now c.args.value there c.index_mut.ensures.value e refl c.replace-old.ensures.after in
    step ∙ ap (λ (es : Pairs). set es i (key_at es i, c.args.value)) c.self.view_is
