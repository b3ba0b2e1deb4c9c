-- Where a refusal points.
use Rattle.std.specs.Prelude.{ℕ, ◌+◌, ◌≤◌, length}
use Rattle.tera_errors.specs.Site.{Text}
use Rattle.tera_syntax_tokens.specs.declared.refusal.Refusal.{Refusal}
use Rattle.tera_syntax_tokens.specs.declared.refusal.Refusal.TheVariants.{Syntax, OutOfMemory}
use Rattle.tera_syntax_tree.specs.Inside.{Within}

-- into the text, which stands at a position
abbrev pub PointsInto : ℕ → Text → Refusal → Type 0
PointsInto at text (Syntax why span) =
    (at ≤ span.start) × (span.start ≤ span.end) × (span.end ≤ at + length text)
PointsInto at text OutOfMemory = Unit {0}

-- at a stretch of a text of this size
abbrev pub PointsWithin : ℕ → Refusal → Type 0
PointsWithin size (Syntax why span) = Within size span
PointsWithin size OutOfMemory = Unit {0}
