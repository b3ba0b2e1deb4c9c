use Rattle.std.proofs.Common.{◌≡◌, ℕ, List, take, ◌-◌, length, arith, ap, refl, ◌∙◌}
use Rattle.std.specs.List.{slice_range}
use Rattle.std.proofs.lemmas.Grind.{common_steps}
use Rattle.tera_run_script.proofs.Bodies.{boundary_passed, body_ended}
use Rattle.tera_run_script.proofs.body.cut_body.Goals as goal

slice_range-front : (xs : List ℕ) (n : ℕ) → slice_range xs 0 n ≡ take n xs
slice_range-front xs n = grind (arith, common_steps)

pub range-requires-clause-end_boundary : goal.range-requires-clause-end_boundary
range-requires-clause-end_boundary c = let h = boundary_passed c.args.text.now c.args.after.now c.requires.passed.front c.utf8.text c.requires.passed.parts in
    rw c.saturating_sub.ensures h

pub returns : goal.returns
returns c = body_ended c.args.text.now c.args.after.now c.args.lines c.args.rest.now _ c.requires
    (c.range.ensures.value ∙ ap (slice_range c.args.text.now 0) c.saturating_sub.ensures ∙ slice_range-front c.args.text.now (length c.args.text.now - length c.args.after.now - 1)) refl refl
