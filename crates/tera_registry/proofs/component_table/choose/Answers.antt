use Rattle.std.proofs.Common.{sym, string_bytes}
use Rattle.std.proofs.lemmas.Map.Text.{btree_map_updates_text}
use Rattle.tera_registry.proofs.Choosing.{chose}
use Rattle.tera_registry.proofs.component_table.choose.Goals as goal

pub returns-in_ok-insert : goal.returns-in_ok-insert
returns-in_ok-insert c = λ q.
    let key = string_bytes c.in_ok-from_str.field-0 in
    chose c.args.taken.now c.insert.new.self key c.args.name.now c.args.new q c.in_ok-from_str.ensures.ok (sym c.if-is_better.ensures) (btree_map_updates_text key c.args.taken.now c.insert.new.self _ c.in_ok-insert.ensures.updates q)
