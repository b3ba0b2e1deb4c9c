use Rattle.std.proofs.Common.{◌≡◌, ◌<◌, ℕ, List, length, get_or, sym, ◌∙◌, subst, rules, Result, Ok}
use Rattle.tera_errors.specs.Fault.{Fault}
use Rattle.tera_value_types.specs.Slices.{positions}
use Rattle.tera_value_types.proofs.Strides.{positions_below}
use Rattle.tera_value_types.proofs.Told.{ok_same}
use Rattle.tera_value_types.proofs.slice.slice_items.Goals as goal

pub pick_items-requires : goal.pick_items-requires
pick_items-requires c =
    let n : ℕ = length c.args.items.now in
    let told : ◌≡◌ {A = Result (List ℕ) Fault} (Ok (positions c.args.start c.args.end c.args.step n)) (Ok c.in_ok-positions.positions.items) = search (rules, c.in_ok-positions.ensures) in
    let is : c.as_slice.result.now ≡ positions c.args.start c.args.end c.args.step n = c.as_slice.ensures.value ∙ sym (ok_same (positions c.args.start c.args.end c.args.step n) c.in_ok-positions.positions.items told) in
    subst (λ (l : List ℕ). (i : ℕ) → i < length l → get_or l i 0 < n) (sym is) (positions_below c.args.start c.args.end c.args.step n)
