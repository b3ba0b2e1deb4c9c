use Rattle.std.proofs.Common.{◌∙◌, ap, sym}
use Rattle.std.proofs.lemmas.List.Elements.{filter-append}
use Rattle.tera_state.specs.BindingMap.{is_outside, outside}
use Rattle.tera_state.proofs.Parts.{both_parts}
use Rattle.tera_state.proofs.Alike.{apart_filtered, apart_same}
use Rattle.tera_state.proofs.binding_maps.BindingMaps.clear.Goals as goal

pub invariant_of-self : goal.invariant_of-self
invariant_of-self c =
    let bodies = c.self.inside.bodies in
    let turns = c.self.inside.turns in
    let part = c.args.part in
    apart_same c.clear.new.self (outside part bodies) c.clear-2.new.self (outside part turns) c.clear.ensures c.clear-2.ensures
    (apart_filtered (λ b. is_outside part b.frame b.layer) bodies turns c.self.invariant)

pub returns : goal.returns
returns c =
    let bodies = c.self.inside.bodies in
    let turns = c.self.inside.turns in
    let part = c.args.part in
    both_parts c.clear.new.self (outside part bodies) c.clear-2.new.self (outside part turns) c.clear.ensures c.clear-2.ensures
    ∙ sym (filter-append (λ b. is_outside part b.frame b.layer) bodies turns)
    ∙ ap (outside part) c.self.view_is
