-- What stands in a text.
use Rattle.std.specs.Prelude.{ℕ, List, All, OnOk, Result}
use Rattle.tera_syntax_tokens.specs.declared.refusal.Refusal.{Refusal}
use Rattle.tera_syntax_tree.specs.Inside.{Within}
use Rattle.tera_syntax.specs.declared.blocks.PlacedName.{PlacedName}
use Rattle.tera_syntax.specs.declared.positions.PieceSpans.{PieceSpans}

-- a piece stands in a text of this size, and so does its end delimiter
abbrev pub StandsWithin : ℕ → PieceSpans → Type 0
StandsWithin size s = Within size s.whole × Within size s.end

-- names stand in a text of this size
abbrev pub NamesWithin : ℕ → List PlacedName → Type 0
NamesWithin size names = All (λ n. Within size n.span) names

-- where this lies in a text and the names that were there stand in it, so do those that are there
-- now
abbrev pub StayWithin : (ℕ → Type 0) → List PlacedName → Result (Unit {0}) Refusal → List PlacedName
    → Type 0
StayWithin Lies old result new =
    (size : ℕ) → Lies size → NamesWithin size old → OnOk result (NamesWithin size new)
