-- The names of blocks and of components with where they stand, and what is refused where two of
-- them are the same.
use Rattle.std.specs.Prelude.{◌≡◌, ℕ, true, List, [], ◌∷◌, Option, Some, None, Result, Ok, Err, map, option_map, bytes_eq, if◌then◌else◌}
use Rattle.std.specs.Option.{option_or, unwrap_or}
use Rattle.tera_errors.specs.Site.{Name}
use Rattle.tera_errors.specs.declared.span.Span.{Span}
use Rattle.tera_syntax_tree.specs.Gathered.{gathered, node_gathered}
use Rattle.tera_syntax_tree.specs.Tree.{Tree, Node, Content, Block, Nodes, NoNodes, MoreNodes, Signature, Definitions}
use Rattle.tera_syntax_tokens.specs.declared.refusal.Reason.{Reason}
use Rattle.tera_syntax_tokens.specs.declared.refusal.Reason.TheVariants.{BlockTwice, ComponentTwice}
use Rattle.tera_syntax_tokens.specs.declared.refusal.Refusal.{Refusal}
use Rattle.tera_syntax_tokens.specs.declared.refusal.Refusal.TheVariants.{Syntax, OutOfMemory}

-- a name, and where it stands
abbrev pub NameAt : Type 0
NameAt = Name × Span

-- the block that a node is
abbrev pub own_block_at : Node → List NameAt
own_block_at (Block name body span) = (name, span) ∷ []
own_block_at _ = []

-- the blocks, in the order of the text; those inside others too
abbrev pub node_blocks_at : Node → List NameAt
node_blocks_at = node_gathered true own_block_at

abbrev pub blocks_at : Nodes → List NameAt
blocks_at = gathered true own_block_at

-- where a text begins
abbrev pub text_start : Node → Option ℕ
text_start (Content text span) = Some span.start
text_start _ = None

-- where the first text of nodes begins, and where they have none, the start of all
abbrev pub first_text : Nodes → ℕ
first_text NoNodes = 0
first_text (MoreNodes n rest) = unwrap_or (text_start n) (first_text rest)

-- a name that stands at a position, on no text
abbrev pub placed : Name → ℕ → NameAt
placed name at = (name, record { start = at; end = at })

-- a component stands where the first text of its body begins
abbrev pub component_at : Signature × Nodes → NameAt
component_at d = placed d.0.name (first_text d.1)

-- the components, in the order of the text
abbrev pub components_at : Definitions → List NameAt
components_at = map component_at

-- where this name stands first
abbrev pub first_at : Name → List NameAt → Option Span
first_at name [] = None
first_at name (n ∷ rest) = if bytes_eq n.0 name then Some n.1 else first_at name rest

-- where the first name that stands again stands next
abbrev pub again : List NameAt → Option Span
again [] = None
again (n ∷ rest) = option_or (first_at n.0 rest) (again rest)

-- what is refused, for this reason, where two of these names are the same
abbrev pub doubled : Reason → List NameAt → Option Refusal
doubled why names = option_map (Syntax why) (again names)

-- what is refused of a tree: two blocks of one name, or else two components of one name
abbrev pub tree_doubled : Tree → Option Refusal
tree_doubled tree =
    option_or (doubled BlockTwice (blocks_at tree.nodes))
    (doubled ComponentTwice (components_at tree.definitions))

-- This is refused, and where it is none, nothing is. Want of memory may always come.
abbrev pub RefusesOnly : {X : Type 0} → Option Refusal → Result X Refusal → Type 0
RefusesOnly fault (Ok x) = fault ≡ None
RefusesOnly fault (Err (Syntax why span)) = fault ≡ Some (Syntax why span)
RefusesOnly fault (Err OutOfMemory) = Unit {0}
