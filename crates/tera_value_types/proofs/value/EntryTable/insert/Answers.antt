use Rattle.std.proofs.Common.{◌≡◌, length, sym, ap, ◌∙◌, arith, subst, [], ◌∷◌, ◌++◌}
use Rattle.std.specs.List.{insert}
use Rattle.std.proofs.lemmas.Grind.{common_steps}
use Rattle.tera_value_types.specs.View.{wanted_view, key_view, entry_views}
use Rattle.tera_value_types.specs.Access.{insert_pair}
use Rattle.tera_value_types.specs.Index.{IsIndex}
use Rattle.tera_value_types.specs.KeyOrder.{flat, place_of, Stands, HasGap}
use Rattle.tera_value_types.specs.declared.value.Entry.{Entry}
use Rattle.tera_value_types.proofs.Positions.{not_there, grown, pushed}
use Rattle.tera_value_types.proofs.Ordered.{stands_written}
use Rattle.tera_value_types.proofs.Entries.{views_length, push_views}
use Rattle.tera_value_types.proofs.value.EntryTable.insert.Goals as goal

pub returns-in-Ok-clause-ok : goal.returns-in-Ok-clause-ok
returns-in-Ok-clause-ok c =
    let all = c.self.inside.all.items in
    let order = flat c.self.inside.by_key in
    let i = c.in-Ok.position in
    let stands0 : Stands order (entry_views all) (wanted_view c.as_key_ref.result) i = rw c.as_slice.ensures.value at c.in-Ok.ensures.found in
    let stands : Stands order (entry_views all) (key_view c.args.key) i = subst (λ k. Stands order (entry_views all) k i) c.as_key_ref.ensures stands0 in
    c.write.ensures ∙ stands_written order (entry_views all) c.self.invariant.index (key_view c.args.key) i stands c.self.view_is c.args.value

pub invariant_of-self-in-Ok-fill : goal.invariant_of-self-in-Ok-fill
invariant_of-self-in-Ok-fill c =
    let all = c.self.inside.all.items in
    let order = flat c.self.inside.by_key in
    let lacks : HasGap c.self.inside.by_key (entry_views all) (wanted_view c.as_key_ref.result) c.in-Err.gap = rw c.as_slice.ensures.value at c.in-Err.ensures.absent in
    let p = place_of c.self.inside.by_key c.in-Err.gap in
    let n : c.len-position.result ≡ length (entry_views all) = grind (arith, common_steps, views_length all) in
    let e : Entry = record { key = c.args.key; value = c.args.value } in
    let more : c.push.new.self.items ≡ all ++ e ∷ [] = c.in_ok-push-in-Err.ensures.items in
    let wider : flat c.fill.new.self ≡ insert order p c.len-position.result = c.in-Ok-fill.ensures.ok in
    let longer : IsIndex (flat c.fill.new.self) (entry_views c.push.new.self.items) = rw (wider, more, push_views all e, n, ← c.as_key_ref.ensures) (grown order (entry_views all) c.self.invariant.index (wanted_view c.as_key_ref.result) c.args.value p lacks.gap) in
    record { full = c.in-Ok-fill.ensures.full; index = longer }

pub returns-in-Ok-fill-clause-ok : goal.returns-in-Ok-fill-clause-ok
returns-in-Ok-fill-clause-ok c =
    let all = c.self.inside.all.items in
    let order = flat c.self.inside.by_key in
    let lacks0 : HasGap c.self.inside.by_key (entry_views all) (wanted_view c.as_key_ref.result) c.in-Err.gap = rw c.as_slice.ensures.value at c.in-Err.ensures.absent in
    let lacks : HasGap c.self.inside.by_key (entry_views all) (key_view c.args.key) c.in-Err.gap = subst (λ k. HasGap c.self.inside.by_key (entry_views all) k c.in-Err.gap) c.as_key_ref.ensures lacks0 in
    let p = place_of c.self.inside.by_key c.in-Err.gap in
    let e : Entry = record { key = c.args.key; value = c.args.value } in
    let more : c.push.new.self.items ≡ all ++ e ∷ [] = c.in_ok-push-in-Err.ensures.items in
    let step : entry_views c.push.new.self.items ≡ insert_pair (entry_views all) (key_view c.args.key) c.args.value = ap entry_views more ∙ push_views all e ∙ sym (pushed order (entry_views all) c.self.invariant.index (key_view c.args.key) p c.args.value lacks.gap) in
    step ∙ ap (λ es. insert_pair es (key_view c.args.key) c.args.value) c.self.view_is

pub returns-in_err-push-in-Err-clause-there : goal.returns-in_err-push-in-Err-clause-there
returns-in_err-push-in-Err-clause-there c some =
    let lacks : HasGap c.self.inside.by_key (entry_views c.self.inside.all.items) (wanted_view c.as_key_ref.result) c.in-Err.gap = rw c.as_slice.ensures.value at c.in-Err.ensures.absent in
    absurd (not_there _ _ c.self.invariant.index c.as_key_ref.ensures c.self.view_is lacks.gap some)

pub returns-in-Err-fill-clause-there : goal.returns-in-Err-fill-clause-there
returns-in-Err-fill-clause-there c some =
    let lacks : HasGap c.self.inside.by_key (entry_views c.self.inside.all.items) (wanted_view c.as_key_ref.result) c.in-Err.gap = rw c.as_slice.ensures.value at c.in-Err.ensures.absent in
    absurd (not_there _ _ c.self.invariant.index c.as_key_ref.ensures c.self.view_is lacks.gap some)
