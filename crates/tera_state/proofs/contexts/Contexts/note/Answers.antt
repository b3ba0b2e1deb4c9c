use Rattle.std.proofs.Common.{rules, ◌≡◌, ◌∙◌, ap₂, sym, List, ℕ}
use Rattle.std.specs.Option.{option_or}
use Rattle.std.proofs.lemmas.List.Elements.{All-set}
use Rattle.tera_values.specs.Val.{Val}
use Rattle.tera_values.specs.Named.{Named, at_name}
use Rattle.tera_state.specs.Contexts.{IsCached}
use Rattle.tera_state.proofs.contexts.Contexts.note.Goals as goal

pub invariant_of-self : goal.invariant_of-self
invariant_of-self c =
    let inside = c.self.inside in
    let same : c.args.name.now ≡ c.in_ok-name.name = search rules in
    All-set (IsCached inside.context inside.global) inside.known.items c.slot_of-slot.result _
    (c.search-value.ensures ∙ ap₂ (λ (n : List ℕ) (both : Named Val × Named Val). option_or (at_name n both.0) (at_name n both.1)) (c.as_name_ref-sought.ensures ∙ same) (sym c.self.view_is))
    c.self.invariant
