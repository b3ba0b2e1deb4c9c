-- Blocks that are found one after another.
use Rattle.std.proofs.Common.{◌≡◌, List, [], ◌∷◌, ◌++◌, map, Result, OnOk, sym, ap, ap₂, ◌∙◌}
use Rattle.std.specs.declared.alloc.AllocError.{AllocError}
use Rattle.std.proofs.lemmas.List.{map-append}
use Rattle.tera_errors.specs.Site as site
use Rattle.tera_syntax_tree.specs.declared.node.Node.{Node}
use Rattle.tera_syntax_tree.specs.Tree as tree
use Rattle.tera_syntax_tree.specs.Tree.{body_of, other_of}
use Rattle.tera_syntax_tree.specs.View.{node_of, nodes_of}
use Rattle.tera_syntax_tree.specs.Blocks.{blocks, node_blocks, own_block}
use Rattle.tera_syntax_tree.proofs.Walks.{found_in_turn, gathered_everywhere}
use Rattle.tera_code.specs.declared.blocks.BlockCode.{BlockCode}
use Rattle.tera_code.specs.Listing.{Listing}
use Rattle.tera_code.specs.Blocks.{block_of, block_listing, block_listings}

abbrev Kept : Type 0
Kept = List (site.Name × Listing)

-- one is found
pub found_block : (file : site.Name) (old mid : List BlockCode) (block : BlockCode) (body : site.Name × tree.Nodes) → mid ≡ old ++ block ∷ [] → block_of block ≡ block_listing file body → map block_of mid ≡ map block_of old ++ block_listings file (body ∷ [])
found_block file old mid block body e h =
    ap (map block_of) e
    ∙ map-append block_of old (block ∷ [])
    ∙ ap (λ x. map block_of old ++ x ∷ []) h

-- those of a node are the block that it is, and those of its bodies
pub found_in_node : (file : site.Name) (old middle last new : Kept) (node : Node) (body other : List Node) (r : Result (Unit {0}) AllocError)
    → nodes_of body ≡ body_of (node_of node) → nodes_of other ≡ other_of (node_of node)
    → middle ≡ old ++ block_listings file (own_block (node_of node)) → last ≡ middle ++ block_listings file (blocks (nodes_of body)) → OnOk r (new ≡ last ++ block_listings file (blocks (nodes_of other)))
    → OnOk r (new ≡ old ++ block_listings file (node_blocks (node_of node)))
found_in_node file old middle last new node body other r in_body in_other =
    let own = own_block (node_of node) in
    let within = ap₂ (λ x y. own ++ (blocks x ++ blocks y)) in_body in_other ∙ gathered_everywhere own_block (node_of node) in
    let listed = ap (λ x. block_listings file own ++ x) (sym (map-append (block_listing file) (blocks (nodes_of body)) (blocks (nodes_of other)))) ∙ sym (map-append (block_listing file) own (blocks (nodes_of body) ++ blocks (nodes_of other))) in
    found_in_turn old middle last new _ _ _ _ r (listed ∙ ap (block_listings file) within)
