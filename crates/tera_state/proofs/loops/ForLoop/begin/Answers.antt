use Rattle.std.proofs.Common.{rules, ◌≡◌, ◌∙◌, refl, ap, Ok}
use Rattle.std.specs.Option.{is_some}
use Rattle.tera_state.specs.Scope.{Heading}
use Rattle.tera_state.specs.Opened.{heading, walked, items_for}
use Rattle.tera_state.specs.declared.loops.ForLoop.{ForLoop}
use Rattle.tera_state.proofs.Started.{turns_of_items, first_turn}
use Rattle.tera_state.proofs.loops.ForLoop.begin.Goals as goal

pub returns : goal.returns
returns c =
    let items = c.in_ok-items.items in
    let l : ForLoop = record { name = c.args.name; key = c.args.key; counts = c.args.counts; items = items; index = 0 } in
    let h : Heading = heading c.args.name c.args.key c.args.counts in
    let over : items_for (is_some c.args.key) c.args.target ≡ Ok (walked items) = search rules in
    let same = turns_of_items h c.args.target (walked items) over in
    record { turns = same.1 ∙ ap Ok (first_turn l refl (search rules)); items = same.0; ready = λ none fits. refl }
