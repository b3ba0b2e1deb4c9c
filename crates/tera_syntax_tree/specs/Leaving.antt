-- Where `break` and `continue` stand.
use Rattle.std.specs.Prelude.{Bool, true, false, ◌&&◌, [], ◌∷◌}
use Rattle.tera_syntax_tree.specs.Tree.{Node, For, Block, Break, Continue, Nodes, Definitions, Tree, fold_node, fold}

-- They stand in the body of a loop alone; the flag says whether the node does.
abbrev pub may_stand : Bool → Node → Bool
may_stand q Break = q
may_stand q Continue = q
may_stand q _ = true

-- Whether the body of a node is in a loop's. What stands behind a loop's `else` is no part of its
-- body, and the body of a block is no part of a loop around it, while that which a component is
-- handed is.
abbrev pub body_may_leave : Bool → Node → Bool
body_may_leave q (For key n e body other) = true
body_may_leave q (Block n body span) = false
body_may_leave q _ = q

abbrev pub place_node : Node → (Bool → Bool) → (Bool → Bool) → Bool → Bool
place_node n body other q = may_stand q n && (body (body_may_leave q n) && other q)

abbrev pub place_first : Node → (Bool → Bool) → (Bool → Bool) → Bool → Bool
place_first n first rest q = first q && rest q

abbrev pub node_in_place : Bool → Node → Bool
node_in_place q n = fold_node place_node (λ q. true) place_first n q

abbrev pub in_place : Bool → Nodes → Bool
in_place q nodes = fold place_node (λ q. true) place_first nodes q

abbrev pub definitions_in_place : Definitions → Bool
definitions_in_place [] = true
definitions_in_place (d ∷ ds) = in_place false d.1 && definitions_in_place ds

-- in the nodes of a tree, and in its components
abbrev pub tree_in_place : Tree → Bool
tree_in_place t = in_place false t.nodes && definitions_in_place t.definitions
