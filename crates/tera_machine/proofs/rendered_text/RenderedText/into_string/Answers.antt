use Rattle.std.proofs.Common.{string_bytes, sym, ap, ◌∙◌}
use Rattle.tera_machine.specs.Layers.{Layers}
use Rattle.tera_machine.proofs.Starts.{layers-all}
use Rattle.tera_machine.proofs.rendered_text.RenderedText.into_string.Goals as goal

pub returns : goal.returns
returns c =
    let t = c.self.inside in
    sym (layers-all t.start t.outer (string_bytes t.all) c.self.invariant (ap (λ (l : Layers). l.below) c.self.view_is ∙ c.requires)) ∙ ap (λ (l : Layers). l.now) c.self.view_is
