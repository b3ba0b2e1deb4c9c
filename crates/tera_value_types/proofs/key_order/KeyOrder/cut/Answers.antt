use Rattle.std.proofs.Common.{ℕ, ◌∙◌, List, length, drop, ap, arith}
use Rattle.std.proofs.lemmas.Slice.{between_to_end}
use Rattle.tera_value_types.proofs.key_order.KeyOrder.cut.Goals as goal

pub split_piece-requires-clause-behind : goal.split_piece-requires-clause-behind
split_piece-requires-clause-behind c =
    c.in-Ok.ensures.items
    ∙ between_to_end c.piece-piece.result.now 128 (length c.piece-piece.result.now) (omega arith)
    ∙ ap (λ (l : List ℕ). drop 128 l) c.piece-piece.ensures
