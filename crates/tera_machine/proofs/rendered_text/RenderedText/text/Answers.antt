use Rattle.std.proofs.Common.{string_bytes, sym, subst}
use Rattle.std.proofs.lemmas.Str.{IsUtf8-had}
use Rattle.std.specs.Str.{IsCharBoundary}
use Rattle.tera_machine.proofs.Starts.{start_is_boundary}
use Rattle.tera_machine.proofs.rendered_text.RenderedText.text.Goals as goal

pub range_from-requires : goal.range_from-requires
range_from-requires c =
    let t = c.self.inside in
    λ _. subst (λ bs. IsCharBoundary bs t.start) (sym c.as_str.ensures.value) (start_is_boundary t.start t.outer (string_bytes t.all) (IsUtf8-had (string_bytes t.all) t.all.ok) c.self.invariant)
