use Rattle.tera_code.proofs.Growth.{chunk_grows}
use Rattle.tera_code.proofs.draft.Draft.emit_text.Goals as goal

pub returns : goal.returns
returns c =
    chunk_grows c.self.inside.tables c.text.new.self c.in_ok-packed.ensures.grows c.self.inside.code.items c.self.invariant _ _ _ c.in_ok-packed.ensures.ok c.in_ok-push.ensures.items c.self.inside.file _ c.self.view_is
