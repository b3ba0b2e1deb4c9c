use Rattle.std.proofs.Common.{◌∙◌, List, Option, sym, ap}
use Rattle.std.specs.Option.{option_or, option_copied}
use Rattle.tera_values.specs.Val.{Val}
use Rattle.tera_state.specs.declared.bindings.Binding.{Binding}
use Rattle.tera_state.specs.Bound.{value_in}
use Rattle.tera_state.proofs.Parts.{value-append}
use Rattle.tera_state.proofs.bindings.Bindings.search.Goals as goal

pub returns-in-Some : goal.returns-in-Some
returns-in-Some c =
    let few = c.self.inside.few.items in
    let others = c.self.inside.others in
    let f = c.args.frame in
    let l = c.args.layer in
    let n = c.args.name.now in
    ap (λ r. option_or (option_copied r) (value_in others f l n)) (sym c.in-Some.is)
    ∙ ap (λ (o : Option Val). option_or o (value_in others f l n)) c.find.ensures
    ∙ ap (λ (bs : List Binding). option_or (value_in bs f l n) (value_in others f l n)) c.as_slice.ensures.value
    ∙ sym (value-append few others f l n)
    ∙ ap (λ bs. value_in bs f l n) c.self.view_is

pub returns-in-None : goal.returns-in-None
returns-in-None c =
    let few = c.self.inside.few.items in
    let others = c.self.inside.others in
    let f = c.args.frame in
    let l = c.args.layer in
    let n = c.args.name.now in
    c.get.ensures
    ∙ ap (λ r. option_or (option_copied r) (value_in others f l n)) (sym c.in-None.is)
    ∙ ap (λ (o : Option Val). option_or o (value_in others f l n)) c.find.ensures
    ∙ ap (λ (bs : List Binding). option_or (value_in bs f l n) (value_in others f l n)) c.as_slice.ensures.value
    ∙ sym (value-append few others f l n)
    ∙ ap (λ bs. value_in bs f l n) c.self.view_is
