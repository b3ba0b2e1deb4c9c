use Rattle.std.proofs.Common.{sym, string_bytes}
use Rattle.std.proofs.lemmas.Map.Text.{btree_map_updates_text}
use Rattle.tera_registry.proofs.Placing.{noted}
use Rattle.tera_registry.proofs.places.note.Goals as goal

pub returns-in_ok-insert : goal.returns-in_ok-insert
returns-in_ok-insert c = λ q.
    let key = string_bytes c.in_ok-from_str.field-0 in
    noted c.args.places.now c.insert.new.self key c.args.name.now c.args.position q c.in_ok-from_str.ensures.ok (sym c.if-not-contains_key.ensures) (btree_map_updates_text key c.args.places.now c.insert.new.self _ c.in_ok-insert.ensures.updates q)
