-- What the text of a template spells.
use Rattle.tera_errors.specs.Site.{Text, Name}
use Rattle.tera_syntax_tokens.specs.Cut.{pieces}
use Rattle.tera_syntax_tree.specs.Delimiters.{Delims}
use Rattle.tera_syntax.specs.Grammar.{DerivesFile}
use Rattle.tera_syntax_tree.specs.Tree.{Tree}

-- All pieces of the text are the nodes of the tree, its components, and what it extends.
abbrev pub Spells : Name → Delims → Text → Tree → Type 0
Spells name d text tree = DerivesFile tree.parent tree.nodes tree.definitions (pieces d text)
