use Rattle.std.proofs.Common.{◌≡◌, ◌++◌, length}
use denote.Text.{Utf8}
use denote.Shadow.{shadow}
use Rattle.tera_values.specs.Alphabet.{plain}
use Rattle.tera_built_ins.specs.Pieces.{pieces}
use Rattle.tera_built_ins.specs.Split.{made_texts}
use Rattle.tera_built_ins.proofs.split.split_at_each.Given as goal

abbrev pub invariant-loop-piece : goal.invariant-loop-piece
invariant-loop-piece l = record {
  is_text : shadow (Utf8 l.rest);
  cut : l.pieces.items ++ made_texts plain (pieces plain.code l.pattern l.rest) ≡ made_texts plain (pieces plain.code l.pattern l.content);
}

abbrev pub decreases-loop-piece : goal.decreases-loop-piece
decreases-loop-piece l = length l.rest
