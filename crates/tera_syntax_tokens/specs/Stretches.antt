-- Pieces and tokens that are stretches of a text.
use Rattle.std.specs.Prelude.{ℕ, ◌≤◌, List, [], ◌∷◌}
use Rattle.tera_syntax_tree.specs.Inside.{Within}
use Rattle.tera_syntax_tokens.specs.Token.{Token}
use Rattle.tera_syntax_tokens.specs.Cut.{Piece, Words, Comment, Variable, Block, Broken}

-- the tokens stand one behind another from a position on, in a text of this size
abbrev pub InOrder : ℕ → ℕ → List Token → Type 0
InOrder size from [] = from ≤ size
InOrder size from (t ∷ ts) =
    (from ≤ t.span.start) × (t.span.start ≤ t.span.end) × InOrder size t.span.end ts

-- what the piece covers is a stretch of a text of this size
abbrev pub PieceInside : ℕ → Piece → Type 0
PieceInside size (Words text span) = Within size span
PieceInside size Comment = Unit {0}
PieceInside size (Variable tokens) = InOrder size 0 tokens
PieceInside size (Block tokens) = InOrder size 0 tokens
PieceInside size Broken = Unit {0}
