-- The blocks of a tree.
use Rattle.std.specs.Prelude.{Bool, true, false, not, ◌&&◌, List, [], ◌∷◌, map, bytes_eq}
use Rattle.std.specs.List.{list_any}
use Rattle.tera_errors.specs.Site as site
use Rattle.tera_syntax_tree.specs.Tree.{Node, Block, Nodes}
use Rattle.tera_syntax_tree.specs.Gathered.{gathered, node_gathered}

-- the block that a node is, with its name and its body
abbrev pub own_block : Node → List (site.Name × Nodes)
own_block (Block name body span) = (name, body) ∷ []
own_block _ = []

-- all blocks, in the order of the text; those inside others too
abbrev pub node_blocks : Node → List (site.Name × Nodes)
node_blocks = node_gathered true own_block

abbrev pub blocks : Nodes → List (site.Name × Nodes)
blocks = gathered true own_block

abbrev pub block_names : Nodes → List site.Name
block_names nodes = map (λ b. b.0) (blocks nodes)

abbrev pub own_block_name : Node → List site.Name
own_block_name (Block name body span) = name ∷ []
own_block_name _ = []

-- the names of those that are inside no other block
abbrev pub node_top_blocks : Node → List site.Name
node_top_blocks = node_gathered false own_block_name

abbrev pub top_blocks : Nodes → List site.Name
top_blocks = gathered false own_block_name

abbrev pub is_among : site.Name → List site.Name → Bool
is_among n names = list_any (λ m. bytes_eq n m) names

abbrev pub are_distinct : List site.Name → Bool
are_distinct [] = true
are_distinct (n ∷ names) = not (is_among n names) && are_distinct names

-- no two blocks have one name
abbrev pub has_each_block_once : Nodes → Bool
has_each_block_once nodes = are_distinct (block_names nodes)
