use Rattle.std.proofs.Common.{◌≡◌, ◌<◌, List, length, ap, rules, arith}
use Rattle.tera_value_types.specs.Val.{Val, vals, entries, val_size, vals_size, entries_size}
use Rattle.tera_value_types.specs.View.{entry_views}
use Rattle.tera_value_types.specs.declared.value.Entry.{Entry}
use Rattle.tera_value_types.proofs.Sizes.{item_below}
use Rattle.tera_value_types.proofs.Compared.{entry_below}
use Rattle.tera_value_types.proofs.+sharing.Goals as goal

pub copy::share-into_shared-requires : goal.copy::share-into_shared-requires
copy::share-into_shared-requires t c =
    let whole : val_size c.replace-whole.result ≡ val_size c.args.value.now = ap val_size c.replace-whole.ensures.value in
    (omega (arith, whole, c.decreases), tt)

pub copy::share_items-share-requires : goal.copy::share_items-share-requires
copy::share_items-share-requires t c =
    let h : c.loop-item.item-index < length c.loop-item.items = search rules in
    let below = item_below c.loop-item.items c.loop-item.item-index c.item-item.result h c.item-item.is in
    let same : vals_size (vals c.loop-item.items) ≡ vals_size (vals c.args.items.now) = ap (λ (l : List Val). vals_size (vals l)) c.loop-item.invariant in
    let lent = ap val_size c.item-item.is in
    (omega (arith, below, same, lent, c.decreases), tt)

pub copy::share_entries-share-requires : goal.copy::share_entries-share-requires
copy::share_entries-share-requires t c =
    let h : c.loop-entry.entry-index < length c.loop-entry.all = search rules in
    let below = entry_below c.loop-entry.all c.loop-entry.entry-index c.entry-item.result h c.entry-item.is in
    let same : entries_size (entries (entry_views c.loop-entry.all)) ≡ entries_size (entries (entry_views c.args.all.now)) = ap (λ l. entries_size (entries l)) c.loop-entry.invariant in
    let lent = ap (λ (e : Entry). val_size e.value) c.entry-item.is in
    (omega (arith, below, same, lent, c.decreases), tt)
