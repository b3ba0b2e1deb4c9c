-- What holds of what texts spell.
use Rattle.std.specs.Prelude.{◌≡◌, length, Result, IsTrue}
use Rattle.std.specs.Str.{IsUtf8}
use Rattle.tera_errors.specs.Site.{Name, Text}
use Rattle.tera_errors.specs.Fault.{Fault}
use Rattle.tera_syntax_tree.specs.Delimiters.{Delims, accepted, delimiters_of}
use Rattle.tera_syntax_tree.specs.declared.delimiters.Delimiters.{Delimiters}
use Rattle.tera_syntax_tree.specs.Inside.{Inside}
use Rattle.tera_syntax_tree.specs.Tree.{Tree}
use Rattle.tera_syntax.specs.TreeRead.{tree_read, IsSpelled, IsReading}
use Rattle.tera_syntax.specs.Reads.{Reads}
use Rattle.tera_syntax.specs.Spells.{Spells}

-- A text spells one tree at most.
abbrev pub OneReading : Type 0
OneReading = (name : Name) (d : Delims) (text : Text) (one other : Tree)
    → Spells name d text one → Spells name d text other → one ≡ other

-- All spans of a tree are stretches of the text that spells it.
abbrev pub SpansInside : Type 0
SpansInside =
    (name : Name) (d : Delimiters) (text : Text) (tree : Tree) → IsTrue (accepted (delimiters_of d))
    → IsUtf8 text
    → Spells name (delimiters_of d) text tree → Inside (length text) tree

-- What the reader makes of a text as a function is what the text spells.
abbrev pub ReadsAsSpelled : Type 0
ReadsAsSpelled = (name : Name) (d : Delims) (text : Text) → IsSpelled name d text (tree_read d text)

-- So reading a text answers what the function makes of it.
abbrev pub AnswersAsRead : Type 0
AnswersAsRead =
    (name : Name) (d : Delims) (text : Text) (reading : Result Tree Fault)
    → Reads name d text reading
    → IsReading name text (tree_read d text) reading
