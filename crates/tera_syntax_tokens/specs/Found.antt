-- What the reader's parts hold, as plain data.
use Rattle.std.specs.Prelude.{ℕ, ◌+◌, List, Bool}
use Rattle.tera_syntax_tokens.specs.Token.{tokens_of}
use Rattle.tera_syntax_tokens.specs.declared.token.Token as token
use Rattle.tera_syntax_tokens.specs.Inside.{Inside}
use Rattle.tera_syntax_tokens.specs.Cut.{Piece, Words, Comment, Variable, Block, FoundPiece}
use Rattle.tera_syntax_tokens.specs.declared.tag_tokens.Ending.{Ending}
use Rattle.tera_syntax_tokens.specs.declared.tag_tokens.Inside as inside
use Rattle.tera_syntax_tokens.specs.declared.cut.Piece as piece
use Rattle.tera_syntax_tokens.specs.declared.cut.Piece.TheVariants as variant
use Rattle.tera_syntax_tokens.specs.declared.cut.FoundPiece as found

-- a tag with its tokens, which are kept apart from it
abbrev pub inside_of : List token.Token → inside.Inside → Inside
inside_of tokens x = record { tokens = tokens_of tokens; next = x.next; trims = x.trims }

-- the position behind a tag, and whether a `-` stands at its end
abbrev pub end_of : Inside → ℕ × Bool
end_of x = (x.next, x.trims)

-- the same by the ending of a text that stands at a position
abbrev pub end_from : ℕ → Ending → ℕ × Bool
end_from at e = (at + e.size, e.trims)

-- a piece; the tokens are those of a tag
abbrev pub piece_of : List token.Token → piece.Piece → Piece
piece_of tokens (variant.Words text span) = Words text.now span
piece_of tokens variant.Comment = Comment
piece_of tokens variant.Variable = Variable (tokens_of tokens)
piece_of tokens variant.Block = Block (tokens_of tokens)

abbrev pub found_of : List token.Token → found.FoundPiece → FoundPiece
found_of tokens x = record { piece = piece_of tokens x.piece; next = x.next; trims = x.trims }
