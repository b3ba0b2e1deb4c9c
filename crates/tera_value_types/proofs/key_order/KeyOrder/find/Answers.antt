use Rattle.std.proofs.Common.{ℕ, List, get_or, sym, subst}
use Rattle.tera_value_types.specs.View.{wanted_view, entry_views}
use Rattle.tera_value_types.specs.Index.{IsRising, IsAt, IsGapFor}
use Rattle.tera_value_types.specs.KeyOrder.{flat, Stands}
use Rattle.tera_value_types.proofs.Ordered.{rising_piece, stands, lacks}
use Rattle.tera_value_types.proofs.key_order.KeyOrder.find.Goals as goal

pub search-requires : goal.search-requires
search-requires c =
    subst (λ (l : List ℕ). IsRising l (entry_views c.args.all.now)) (sym c.piece-piece.ensures) (rising_piece c.args.self.now (entry_views c.args.all.now) c.requires c.piece_of-number.result c.piece_of-number.ensures.there)

pub returns-in-Ok-clause-found : goal.returns-in-Ok-clause-found
returns-in-Ok-clause-found c =
    let es = entry_views c.args.all.now in
    let k = wanted_view c.args.wanted.now in
    let found = subst (λ (l : List ℕ). IsAt l es k c.in-Ok.at) c.piece-piece.ensures c.in-Ok.ensures.found in
    subst (λ (l : List ℕ). Stands (flat c.args.self.now) es k (get_or l c.in-Ok.at 0)) (sym c.piece-piece.ensures) (stands c.args.self.now es c.requires c.piece_of-number.result c.piece_of-number.ensures.there k c.in-Ok.at found)

pub returns-in-Err-clause-absent : goal.returns-in-Err-clause-absent
returns-in-Err-clause-absent c =
    let es = entry_views c.args.all.now in
    let k = wanted_view c.args.wanted.now in
    let gap = subst (λ (l : List ℕ). IsGapFor l es k c.in-Err.at) c.piece-piece.ensures c.in-Err.ensures.absent in
    lacks c.args.self.now es c.requires c.piece_of-number.result c.piece_of-number.ensures.there k c.in-Err.at c.piece_of-number.ensures.from c.piece_of-number.ensures.until gap
