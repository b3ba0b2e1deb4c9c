-- The order of keys as it is kept: positions of entries, in pieces.
use Rattle.std.specs.Prelude.{◌≡◌, ◌+◌, ◌<◌, ◌≤◌, ℕ, List, [], ◌∷◌, ◌++◌, length, map, take, slice_index_or}
use Rattle.std.specs.List.{concat}
use Rattle.std.specs.Global.{Global}
use Rattle.std.specs.declared.vec.Vec.{Vec}
use Rattle.tera_value_types.specs.Val.{Val, KeyVal}
use Rattle.tera_value_types.specs.Index.{IsIndex, IsAt, IsGapFor}
use Rattle.tera_value_types.specs.declared.key_order.KeyOrder.{KeyOrder}
use Rattle.tera_value_types.specs.declared.key_order.Gap.{Gap}
use Rattle.tera_value_types.specs.declared.key_order.KeyWalk.{KeyWalk}

abbrev pub rows : List (Vec ℕ Global) → List (List ℕ)
rows = map (λ v. v.items)

abbrev pub pieces : KeyOrder → List (List ℕ)
pieces o = o.first.items ∷ rows o.rest.items

-- all positions, piece after piece
abbrev pub flat : KeyOrder → List ℕ
flat o = concat (pieces o)

abbrev pub piece_at : List (List ℕ) → ℕ → List ℕ
piece_at ps n = slice_index_or ps n []

-- how many positions stand before a piece
abbrev pub before : List (List ℕ) → ℕ → ℕ
before ps n = length (concat (take n ps))

-- no piece but the first is empty
pub record IsFull (o : KeyOrder) : Type 0 where
  pub has_one : (n : ℕ) → n < length o.rest.items
      → 0 < length (piece_at (rows o.rest.items) n)

-- what a map knows of the order that it keeps of its entries
pub record IsKept (o : KeyOrder) (es : List (KeyVal × Val)) : Type 0 where
  pub full : IsFull o
  pub index : IsIndex (flat o) es

-- the key stands at position i of the entries
pub record Stands (order : List ℕ) (es : List (KeyVal × Val)) (k : KeyVal) (i : ℕ) : Type 0 where
  pub place : ℕ
  pub at : IsAt order es k place
  pub is : slice_index_or order place 0 ≡ i

-- a place in a piece that there is
pub record IsInside (o : KeyOrder) (g : Gap) : Type 0 where
  pub piece : g.piece ≤ length o.rest.items
  pub at : g.at ≤ length (piece_at (pieces o) g.piece)

-- which place that is among all positions
abbrev pub place_of : KeyOrder → Gap → ℕ
place_of o g = before (pieces o) g.piece + g.at

-- the key has its gap there
pub record HasGap (o : KeyOrder) (es : List (KeyVal × Val)) (k : KeyVal) (g : Gap) : Type 0 where
  pub inside : IsInside o g
  pub gap : IsGapFor (flat o) es k (place_of o g)

-- what a walk has not passed yet
abbrev pub left : KeyWalk → List ℕ
left w = w.piece.now ++ concat (rows w.rest.now)
