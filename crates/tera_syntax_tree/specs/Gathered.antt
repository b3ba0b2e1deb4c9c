-- What is gathered from a tree.
use Rattle.std.specs.Prelude.{Bool, true, List, [], ◌++◌, if◌then◌else◌}
use Rattle.tera_syntax_tree.specs.Tree.{Node, Block, Nodes, fold_node, fold}

-- whether what the bodies of a node give is gathered with the node; the flag says whether the
-- bodies of blocks are among them
abbrev pub is_entered : Bool → Node → Bool
is_entered in_blocks (Block n body span) = in_blocks
is_entered in_blocks _ = true

-- what a node gives by itself, and behind that what its bodies give
abbrev pub gather_node : {A : Type 0} → Bool → (Node → List A) → Node → List A → List A → List A
gather_node in_blocks own n body other =
    own n ++ (if is_entered in_blocks n then body ++ other else [])

abbrev pub gather_first : {A : Type 0} → Node → List A → List A → List A
gather_first n first rest = first ++ rest

-- all that is given, in the order of the text
abbrev pub node_gathered : {A : Type 0} → Bool → (Node → List A) → Node → List A
node_gathered in_blocks own = fold_node (gather_node in_blocks own) [] gather_first

abbrev pub gathered : {A : Type 0} → Bool → (Node → List A) → Nodes → List A
gathered in_blocks own = fold (gather_node in_blocks own) [] gather_first
