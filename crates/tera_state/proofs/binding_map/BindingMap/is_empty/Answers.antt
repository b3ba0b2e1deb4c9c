use Rattle.std.proofs.Common.{◌≡◌, length, ap, sym, ◌∙◌, arith}
use Rattle.std.proofs.lemmas.Bool.Decides.{nat_tests}
use Rattle.std.proofs.lemmas.List.{nil_from_length}
use Rattle.tera_state.proofs.binding_map.BindingMap.is_empty.Goals as goal

pub returns : goal.returns
returns c =
    let items = c.self.inside.items.items in (
      λ t. let none : length items ≡ 0 = grind (arith, nat_tests, c.is_empty.ensures, t, c.self.inside.items.ok) in sym c.self.view_is ∙ nil_from_length items none,
      λ e. let none : length items ≡ 0 = ap length (c.self.view_is ∙ e) in grind (arith, nat_tests, c.is_empty.ensures, none, c.self.inside.items.ok),
    )
