use Rattle.std.proofs.Common.{◌∙◌, ap}
use Rattle.tera_values.specs.Named.{put}
use Rattle.tera_state.proofs.Listed.{by_bytes, listed-insert}
use Rattle.tera_state.proofs.objects.table.ObjectTable.put.Goals as goal

pub returns-clause-ok : goal.returns-clause-ok
returns-clause-ok g c =
    ap by_bytes c.in_ok-insert.ensures.entries
    ∙ listed-insert c.args.self.now.entries.entries c.in_ok-key.key c.args.thing
    ∙ ap (λ n. put n c.args.thing (by_bytes c.args.self.now.entries.entries)) c.in_ok-key.ensures.ok
