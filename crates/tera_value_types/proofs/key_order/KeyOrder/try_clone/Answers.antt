use Rattle.std.proofs.Common.{◌≡◌, ◌∷◌, ◌∙◌, ℕ, List, ap}
use Rattle.std.specs.List.{each_same}
use Rattle.tera_value_types.specs.KeyOrder.{rows}
use Rattle.tera_value_types.proofs.Pieces.{Rows, cloned}
use Rattle.tera_value_types.proofs.key_order.KeyOrder.try_clone.Goals as goal

pub returns : goal.returns
returns c =
    let o = c.args.self.now in
    let first : c.in_ok-first.first.items ≡ o.first.items = each_same o.first.items c.in_ok-first.first.items c.in_ok-first.ensures.cases.0 in
    let rest : rows c.in_ok-rest.rest.items ≡ rows o.rest.items = cloned o.rest.items c.in_ok-rest.rest.items c.in_ok-rest.ensures.cases.0 in
    ap (λ (l : List ℕ). l ∷ rows c.in_ok-rest.rest.items) first ∙ ap (λ (ps : Rows). o.first.items ∷ ps) rest
