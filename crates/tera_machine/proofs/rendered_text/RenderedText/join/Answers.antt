use Rattle.std.proofs.Common.{List, ℕ, string_bytes, sym, ap, ◌∙◌, subst}
use Rattle.tera_machine.specs.Layers.{joined, AreStarts, layers_at}
use Rattle.tera_machine.proofs.Starts.{starts-joined, layers-joined}
use Rattle.tera_machine.proofs.rendered_text.RenderedText.join.Goals as goal

pub invariant_of-self : goal.invariant_of-self
invariant_of-self c =
    let t = c.self.inside in
    starts-joined t.start c.pop_top-outer.result c.pop_top-outer.new.self (string_bytes t.all) (subst (λ (os : List ℕ). AreStarts t.start os (string_bytes t.all)) c.pop_top-outer.ensures c.self.invariant)

pub returns : goal.returns
returns c =
    let t = c.self.inside in
    layers-joined t.start c.pop_top-outer.result c.pop_top-outer.new.self (string_bytes t.all) (subst (λ (os : List ℕ). AreStarts t.start os (string_bytes t.all)) c.pop_top-outer.ensures c.self.invariant)
    ∙ ap joined (ap (λ (os : List ℕ). layers_at t.start os (string_bytes t.all)) (sym c.pop_top-outer.ensures) ∙ c.self.view_is)
