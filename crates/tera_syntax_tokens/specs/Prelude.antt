-- The definitions that contracts of other crates name, passed on from one file.
pub use Rattle.tera_syntax_tokens.specs.Answers.{Answers, IsSyntax}
pub use Rattle.tera_syntax_tokens.specs.Token.{Token, token_of, tokens_of}
pub use Rattle.tera_syntax_tokens.specs.Cut.{pieces}
pub use Rattle.tera_syntax_tokens.specs.Found.{piece_of}
pub use Rattle.tera_syntax_tokens.specs.Input.{begin, kind, left, next, Parser, same, span, start, starts, text}
pub use Rattle.tera_syntax_tokens.specs.Takes.{input, Takes}
pub use Rattle.tera_syntax_tokens.specs.Points.{PointsInto, PointsWithin}
pub use Rattle.tera_syntax_tokens.specs.Stretches.{InOrder, PieceInside}
