-- The blocks in a node that are inside no other one: the node itself, or those in its bodies.
use Rattle.std.proofs.Common.{◌≡◌, Bool, true, false, List, [], ◌++◌, if◌then◌else◌, Result, Ok, Err, OnOk, sym, ap, ap₂, ◌∙◌}
use Rattle.std.proofs.lemmas.List.{append-nil}
use Rattle.tera_errors.specs.Site.{Name}
use Rattle.tera_syntax_tree.specs.declared.node.Node.{Node}
use Rattle.tera_syntax_tree.specs.Blocks.{node_top_blocks, own_block_name, top_blocks}
use Rattle.tera_syntax_tree.specs.Gathered.{is_entered}
use Rattle.tera_syntax_tree.specs.Tree.{body_of, other_of}
use Rattle.tera_syntax_tree.specs.View.{node_of, nodes_of}
use Rattle.tera_syntax_tree.proofs.Walks.{found_in_turn, gathered_of_bodies}

-- what holds where all went well is told by what is the same
pub on_ok_by : {X E : Type 0} (r : Result (Unit {0}) E) (x y z : X) → y ≡ z → OnOk r (x ≡ y) → OnOk r (x ≡ z)
on_ok_by (Ok a) x y z e h = h ∙ e
on_ok_by (Err b) x y z e h = tt

within : (n : Bool) (own both : List Name) (whole : List Name) → n ≡ true → own ++ (if n then both else []) ≡ whole → own ++ both ≡ whole
within n own both whole is e = ap (λ b. own ++ (if b then both else [])) (sym is) ∙ e

-- in a node that is entered
pub tops_in_node : {E : Type 0} (old middle last new : List Name) (node : Node) (body other : List Node) (r : Result (Unit {0}) E)
    → is_entered false (node_of node) ≡ true → nodes_of body ≡ body_of (node_of node) → nodes_of other ≡ other_of (node_of node)
    → middle ≡ old ++ own_block_name (node_of node) → last ≡ middle ++ top_blocks (nodes_of body) → OnOk r (new ≡ last ++ top_blocks (nodes_of other))
    → OnOk r (new ≡ old ++ node_top_blocks (node_of node))
tops_in_node old middle last new node body other r entered in_body in_other =
    found_in_turn old middle last new (own_block_name (node_of node)) _ _ _ r
    (ap₂ (λ x y. own_block_name (node_of node) ++ (top_blocks x ++ top_blocks y)) in_body in_other
    ∙ within _ _ _ _ entered (gathered_of_bodies false own_block_name (node_of node)))

-- one that is not entered gives its own alone
pub tops_alone : (old new : List Name) (node : Node) → is_entered false (node_of node) ≡ false → new ≡ old ++ own_block_name (node_of node) → new ≡ old ++ node_top_blocks (node_of node)
tops_alone old new node alone own =
    let n = node_of node in
    let both = top_blocks (body_of n) ++ top_blocks (other_of n) in
    own ∙ ap (λ x. old ++ x) (sym (append-nil (own_block_name n)) ∙ ap (λ b. own_block_name n ++ (if b then both else [])) (sym alone) ∙ gathered_of_bodies false own_block_name n)
