-- What reading a text may answer.
use Rattle.std.specs.Prelude.{◌≡◌, ℕ, Result, Ok, Err, length, drop, IsTrue}
use Rattle.tera_errors.specs.Site.{Text, Name}
use Rattle.tera_errors.specs.Fault.{Fault, syntax_error}
use Rattle.tera_errors.specs.declared.span.Span.{Span}
use Rattle.tera_syntax_tokens.specs.Cut.{opens}
use Rattle.tera_syntax_tree.specs.Delimiters.{Delims}
use Rattle.tera_syntax_tree.specs.Depth.{IsWellFormed}
use Rattle.tera_syntax_tree.specs.Inside.{Within}
use Rattle.tera_syntax.specs.Spells.{Spells}
use Rattle.tera_syntax_tree.specs.Tree.{Tree}

-- the text spells no well-formed tree
abbrev pub SpellsNone : Name → Delims → Text → Type 0
SpellsNone name d text = (tree : Tree) → IsWellFormed tree → Spells name d text tree → ⊥

-- the fault is a syntax error at a stretch of the text
abbrev pub IsSyntaxError : Name → Text → Fault → Type 0
IsSyntaxError name text fault =
    (span : Span) × (fault ≡ syntax_error (record { file = name; span = span }))
    × Within (length text) span

-- every well-formed tree that the text spells is this one
abbrev pub SpellsOnly : Name → Delims → Text → Tree → Type 0
SpellsOnly name d text tree =
    (other : Tree) → IsWellFormed other → Spells name d text other → other ≡ tree

-- The well-formed tree that the text spells, and no other; where it spells none, a syntax error.
abbrev pub Reads : Name → Delims → Text → Result Tree Fault → Type 0
Reads name d text (Ok tree) =
    Spells name d text tree × IsWellFormed tree × SpellsOnly name d text tree
Reads name d text (Err fault) = IsSyntaxError name text fault × SpellsNone name d text

-- A text in which no start delimiter begins is read.
abbrev pub ReadsPlainText : Delims → Text → Result Tree Fault → Type 0
ReadsPlainText d text (Ok tree) = Unit {0}
ReadsPlainText d text (Err fault) = (position : ℕ) × IsTrue (opens d (drop position text))
