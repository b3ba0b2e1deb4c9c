-- How the answer of a part of the reader stands to its definition.
use Rattle.std.specs.Prelude.{◌≡◌, ◌≤◌, ◌+◌, ◌-◌, ℕ, length, drop, IsUtf8, Option, Some, None, Result, Ok, Err}
use Rattle.tera_errors.specs.Site.{Text}
use Rattle.tera_syntax_tokens.specs.declared.refusal.Refusal.{Refusal}
use Rattle.tera_syntax_tokens.specs.declared.refusal.Refusal.TheVariants.{Syntax, OutOfMemory}

-- A part is refused where nothing is meant. Want of memory may always come.
abbrev pub Refuses : {Y : Type 0} → Option Y → Refusal → Type 0
Refuses meant (Syntax why span) = meant ≡ None
Refuses meant OutOfMemory = Unit {0}

-- the answer, seen by view, is what is meant
abbrev pub Answers : {X Y : Type 0} → (X → Y) → Option Y → Result X Refusal → Type 0
Answers view meant (Ok x) = meant ≡ Some (view x)
Answers view meant (Err refusal) = Refuses meant refusal

-- the rest is what follows the position `next` in a text that stands at a position
abbrev pub Follows : ℕ → Text → ℕ → Text → Type 0
Follows at text next rest =
    (at ≤ next) × (next ≤ at + length text) × (rest ≡ drop (next - at) text) × IsUtf8 rest

abbrev pub IsSyntax : Refusal → Type 0
IsSyntax (Syntax why span) = Unit {0}
IsSyntax OutOfMemory = ⊥
