use Rattle.std.proofs.Common.{Ok, rules, refl, sym, subst}
use Rattle.std.proofs.lemmas.List.Elements.{All-nil, All-same}
use Rattle.tera_syntax_tree.specs.Inside.{DefinitionsInside, Within}
use Rattle.tera_syntax_tree.specs.View.{definitions_of}
use Rattle.tera_syntax_tokens.specs.Points.{PointsWithin}
use Rattle.tera_syntax.specs.declared.blocks.PlacedName.{PlacedName}
use Rattle.tera_syntax.proofs.Doubled.{answers_once}
use Rattle.tera_syntax.proofs.blocks.with_distinct_names.Goals as goal

pub returns-in_err-refuse_repeats-clause-value : goal.returns-in_err-refuse_repeats-clause-value
returns-in_err-refuse_repeats-clause-value c = answers_once c.args.output c.from_residual-in_err-refuse_repeats.result (search rules) (search rules)

pub returns-in_err-refuse_repeats-2-clause-value : goal.returns-in_err-refuse_repeats-2-clause-value
returns-in_err-refuse_repeats-2-clause-value c = answers_once c.args.output c.from_residual-in_err-refuse_repeats-2.result (search rules) (search rules)

pub returns-clause-value : goal.returns-clause-value
returns-clause-value c = answers_once c.args.output (Ok c.args.output) (search rules) refl

pub returns-in_err-refuse_repeats-2-clause-points : goal.returns-in_err-refuse_repeats-2-clause-points
returns-in_err-refuse_repeats-2-clause-points c size inside =
    let P : PlacedName → Type 0 = λ n. Within size n.span in
    let lies = subst (λ ds. DefinitionsInside size (definitions_of ds)) (sym c.as_slice-3.ensures.value) inside.1 in
    let names = c.in_ok-gather_components.ensures.points size lies (All-same P _ _ c.new-components.ensures.items (All-nil P)) in
    let pointed : PointsWithin size c.in_err-refuse_repeats-2.field-0.0 = c.in_err-refuse_repeats-2.ensures.points size (All-same P _ _ c.as_slice-4.ensures.value names) in
    search rules
