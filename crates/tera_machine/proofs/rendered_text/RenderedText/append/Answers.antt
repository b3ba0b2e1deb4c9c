use Rattle.std.proofs.Common.{◌++◌, string_bytes, sym, ap, ◌∙◌, subst}
use Rattle.tera_machine.specs.Layers.{Layers, layers_at, AreStarts}
use Rattle.tera_machine.proofs.Starts.{layers-append, starts-append}
use Rattle.tera_machine.proofs.rendered_text.RenderedText.append.Goals as goal

pub invariant_of-self-2 : goal.invariant_of-self-2
invariant_of-self-2 c =
    let t = c.self.inside in
    subst (AreStarts t.start t.outer) (sym c.in_ok-push_str.ensures.bytes) (starts-append t.start t.outer (string_bytes t.all) c.args.text.now c.self.invariant c.utf8.text)

pub returns : goal.returns
returns c =
    let t = c.self.inside in
    ap (layers_at t.start t.outer) c.in_ok-push_str.ensures.bytes
    ∙ layers-append t.start t.outer (string_bytes t.all) c.args.text.now c.self.invariant
    ∙ ap (λ (l : Layers). record { now = l.now ++ c.args.text.now; below = l.below }) c.self.view_is
