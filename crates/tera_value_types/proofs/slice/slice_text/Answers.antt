use Rattle.std.proofs.Common.{◌≡◌, ◌<◌, ℕ, List, length, get_or, sym, ap, ◌∙◌, subst, rules, Result, Ok}
use Rattle.tera_errors.specs.Fault.{Fault}
use Rattle.tera_value_types.specs.Slices.{positions}
use Rattle.tera_value_types.proofs.Strides.{positions_below}
use Rattle.tera_value_types.proofs.Told.{ok_same}
use Rattle.tera_value_types.proofs.slice.slice_text.Goals as goal

pub pick_chars-requires : goal.pick_chars-requires
pick_chars-requires c =
    let n : ℕ = length c.as_slice.result.now in
    let m : c.len.result ≡ n = search rules in
    let told : ◌≡◌ {A = Result (List ℕ) Fault} (Ok (positions c.args.start c.args.end c.args.step c.len.result)) (Ok c.in_ok-positions.positions.items) = search (rules, c.in_ok-positions.ensures) in
    let is : c.as_slice-2.result.now ≡ positions c.args.start c.args.end c.args.step c.len.result = c.as_slice-2.ensures.value ∙ sym (ok_same (positions c.args.start c.args.end c.args.step c.len.result) c.in_ok-positions.positions.items told) in
    subst (λ (l : List ℕ). (i : ℕ) → i < length l → get_or l i 0 < n) (sym (is ∙ ap (positions c.args.start c.args.end c.args.step) m)) (positions_below c.args.start c.args.end c.args.step n)
