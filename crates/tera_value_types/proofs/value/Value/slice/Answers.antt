use Rattle.std.proofs.Common.{◌≡◌, List, ℤ, Result, Ok, Err, Bool, false, cond, length, pos, unwrap_or, ap, sym, ◌∙◌, rules}
use Rattle.std.specs.Ordering.{int_eq}
use Rattle.tera_errors.specs.Fault.{Fault, message}
use Rattle.tera_value_types.specs.Val.{Val, array, vals}
use Rattle.tera_value_types.specs.Slices.{slice, positions, picked_items, unless_still}
use Rattle.tera_value_types.proofs.Counts.{list_vals}
use Rattle.tera_value_types.proofs.Told.{ok_same}
use Rattle.tera_value_types.proofs.value.Value.slice.Goals as goal

pub returns-in_ok-slice_items-in-Array : goal.returns-in_ok-slice_items-in-Array
returns-in_ok-slice_items-in-Array c =
    let xs : List Val = c.in-Array.items.now in
    let by : ℤ = unwrap_or c.args.step (pos 1) in
    let apart : int_eq by (pos 0) ≡ false = search rules in
    let part : List Val → Val = λ (l : List Val). array (vals (picked_items (positions c.args.start c.args.end by (length l)) l)) in
    let step : ℤ = c.unwrap_or-step.result in
    let picked : List Val = c.in_ok-slice_items-in-Array.field-0.items in
    let said : ◌≡◌ {A = Result (List Val) Fault} (Ok (picked_items (positions c.args.start c.args.end step (length xs)) xs)) (Ok picked) = search (rules, c.in_ok-slice_items-in-Array.ensures) in
    let told : picked_items (positions c.args.start c.args.end step (length xs)) xs ≡ picked = ok_same (picked_items (positions c.args.start c.args.end step (length xs)) xs) picked said in
    let same : picked_items (positions c.args.start c.args.end by (length xs)) xs ≡ picked = ap (λ (z : ℤ). picked_items (positions c.args.start c.args.end z (length xs)) xs) (sym c.unwrap_or-step.ensures) ∙ told in
    ap (slice c.args.start c.args.end c.args.step) (sym c.in-Array.ensures)
    ∙ ap (λ (l : List Val). unless_still by (part l)) (list_vals xs)
    ∙ ap (λ (b : Bool). cond b (Err message) (Ok (part xs))) apart
    ∙ ap (λ (l : List Val). Ok (array (vals l))) same
    ∙ ap Ok (sym c.array.ensures)
