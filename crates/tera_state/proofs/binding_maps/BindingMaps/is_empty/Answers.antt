use Rattle.std.proofs.Common.{sym, ◌∙◌, true≢false}
use Rattle.tera_state.proofs.Parts.{none-append, append-none}
use Rattle.tera_state.proofs.binding_maps.BindingMaps.is_empty.Goals as goal

pub returns-else-bodies : goal.returns-else-bodies
returns-else-bodies c = (
  λ t. absurd (true≢false (sym t ∙ c.if-bodies.false)),
  λ e. c.is_empty-bodies.ensures.1 (none-append c.self.inside.bodies c.self.inside.turns (c.self.view_is ∙ e)).0,
)

pub returns-then-bodies : goal.returns-then-bodies
returns-then-bodies c =
    let bodies = c.self.inside.bodies in
    let turns = c.self.inside.turns in (
      λ t. sym c.self.view_is ∙ append-none bodies turns (c.is_empty-bodies.ensures.0 c.if-bodies.true) (c.is_empty-turns.ensures.0 t),
      λ e. c.is_empty-turns.ensures.1 (none-append bodies turns (c.self.view_is ∙ e)).1,
    )
