-- Texts of templates that spell no tree.
use Rattle.std.specs.Prelude.{◌≡◌, ◌⊎◌, List, [], ◌∷◌, Some, Ok, Err}
use Rattle.tera.specs.Site.{Name, Text}
use Rattle.tera.specs.Fault.{Fault}
use Rattle.tera.specs.Answer.{SeenError}
use Rattle.tera.specs.Delimiters.{Delims}
use Rattle.tera.specs.Tree.{Tree}
use Rattle.tera.specs.Reads.{Reads}

-- the text spells a tree
abbrev pub IsRead : Delims → Name × Text → Type 0
IsRead d t = (tree : Tree) × Reads t.0 d t.1 (Ok tree)

-- it spells none, and this is its syntax error
abbrev pub IsUnread : Delims → Name × Text → SeenError → Type 0
IsUnread d t e = (fault : Fault) × (e ≡ Some fault) × Reads t.0 d t.1 (Err fault)

-- the syntax error of each text that spells no tree, in the order of the texts
abbrev pub AreUnread : Delims → List (Name × Text) → List SeenError → Type 0
AreUnread d [] es = es ≡ []
AreUnread d (t ∷ ts) es =
    (IsRead d t × AreUnread d ts es)
    ⊎ ((e : SeenError) × (rest : List SeenError) × (es ≡ e ∷ rest) × IsUnread d t e
    × AreUnread d ts rest)
