use Rattle.std.proofs.Common.{List, ℕ, Ok, refl, subst, rules}
use Rattle.tera_errors.specs.Answer.{Gives}
use Rattle.tera_value_types.proofs.Strides.{up_positions, down_positions}
use Rattle.tera_value_types.proofs.slice.positions.Goals as goal

pub returns-then-step-gt0 : goal.returns-then-step-gt0
returns-then-step-gt0 c =
    let all = up_positions c.args.start c.args.end c.args.step c.args.length c.slice_bound-first.result c.slice_bound-last.result c.unsigned_abs-stride.result c.requires (search rules) (search (rules, c.if-step-gt0.true)) (c.slice_bound-first.ensures.before refl) (c.slice_bound-last.ensures.before refl) c.slice_bound-last.ensures.within in
    subst (λ (l : List ℕ). Gives (λ v. v.items) c.positions_upward.result (Ok l)) all c.positions_upward.ensures

pub returns-else-step-gt0 : goal.returns-else-step-gt0
returns-else-step-gt0 c =
    let all = down_positions c.args.start c.args.end c.args.step c.args.length c.slice_bound-first-else-step-gt0.result c.slice_bound-last-else-step-gt0.result c.unsigned_abs-stride.result c.requires (search rules) (search (rules, c.if-step-gt0.false)) (c.slice_bound-first-else-step-gt0.ensures.through refl) (c.slice_bound-last-else-step-gt0.ensures.through refl) c.slice_bound-first-else-step-gt0.ensures.within in
    subst (λ (l : List ℕ). Gives (λ v. v.items) c.positions_downward.result (Ok l)) all c.positions_downward.ensures
