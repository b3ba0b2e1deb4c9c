-- Entries and their list of pairs are two forms of one thing.
use Rattle.std.proofs.Common.{◌≡◌, List, [], ◌∷◌, refl, ap}
use Rattle.tera_value_types.specs.Val.{Val, KeyVal, entries}
use Rattle.tera_value_types.specs.Access.{pairs}

pub pairs_entries : (es : List (KeyVal × Val)) → pairs (entries es) ≡ es
pairs_entries [] = refl
pairs_entries (e ∷ es) = ap (λ l. e ∷ l) (pairs_entries es)
