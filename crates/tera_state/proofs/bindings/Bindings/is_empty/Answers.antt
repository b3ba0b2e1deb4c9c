use Rattle.std.proofs.Common.{rules, ◌≡◌, length, sym, ◌∙◌, true≢false, arith}
use Rattle.std.proofs.lemmas.Bool.Decides.{nat_tests}
use Rattle.std.proofs.lemmas.List.{nil_from_length}
use Rattle.tera_state.proofs.Parts.{none-append, append-none}
use Rattle.tera_state.proofs.bindings.Bindings.is_empty.Goals as goal

pub returns-else-few : goal.returns-else-few
returns-else-few c = (
  λ t. absurd (true≢false (sym t ∙ c.if-few.false)),
  λ e. let none = (none-append c.self.inside.few.items c.self.inside.others (c.self.view_is ∙ e)).0 in search (rules, none),
)

pub returns-then-few : goal.returns-then-few
returns-then-few c =
    let few = c.self.inside.few.items in
    let others = c.self.inside.others in
    let none : length few ≡ 0 = grind (arith, nat_tests, c.is_empty-few.ensures, c.if-few.true, c.self.inside.few.ok) in (
      λ t. sym c.self.view_is ∙ append-none few others (nil_from_length few none) (c.is_empty-others.ensures.0 t),
      λ e. c.is_empty-others.ensures.1 (none-append few others (c.self.view_is ∙ e)).1,
    )
