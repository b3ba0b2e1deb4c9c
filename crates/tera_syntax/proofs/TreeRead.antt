-- What the reader makes of a text as a function is what the text spells, and what reading it answers.
use Rattle.std.proofs.Common.{◌≡◌, Option, Some, None, Result, Ok, Err, refl, ap}
use Rattle.tera_errors.specs.Site.{Text, Name}
use Rattle.tera_errors.specs.Fault.{Fault}
use Rattle.tera_syntax_tree.specs.Delimiters.{Delims}
use Rattle.tera_syntax_tree.specs.Depth.{max_tree_depth}
use Rattle.tera_syntax_tree.specs.Tree.{Tree}
use Rattle.tera_syntax_tokens.specs.Cut.{pieces}
use Rattle.tera_syntax.specs.TreeRead.{tree_read, IsSpelled, IsReading}
use Rattle.tera_syntax.specs.File.{file}
use Rattle.tera_syntax.specs.Laws.{ReadsAsSpelled, AnswersAsRead}
use Rattle.tera_syntax.specs.Reads.{Reads}
use Rattle.tera_syntax.proofs.Extending.{file_sound, file_placed, file_outside}
use Rattle.tera_syntax.proofs.Plain.{spells_none, one_tree}

module _ (name : Name) (d : Delims) (text : Text) where
  spelled-by : (o : Option Tree) → file max_tree_depth (pieces d text) ≡ o → IsSpelled name d text o
  spelled-by (Some tree) h =
      let s = file_sound max_tree_depth (pieces d text) tree h in
      (s.0, (s.1, file_placed s.0, s.2.0, file_outside s.0, s.2.1), λ other w k. one_tree name d text other tree k s.0)
  spelled-by None h = spells_none name d text h

  answer-by : (o : Option Tree) → IsSpelled name d text o → (answer : Result Tree Fault) → Reads name d text answer → IsReading name text o answer
  answer-by (Some tree) s (Ok other) r = ap Ok (s.2 other r.1 r.0)
  answer-by (Some tree) s (Err fault) r = absurd (r.1 tree s.1 s.0)
  answer-by None s (Ok other) r = absurd (s other r.1 r.0)
  answer-by None s (Err fault) r = (fault, refl, r.0)

pub reads_as_spelled : ReadsAsSpelled
unfolding tree_read
reads_as_spelled name d text = spelled-by name d text (file max_tree_depth (pieces d text)) refl

pub answers_as_read : AnswersAsRead
answers_as_read name d text answer = answer-by name d text (tree_read d text) (reads_as_spelled name d text) answer
