-- What a node's bodies say of the node: its blocks and where they stand, and that all in it lies inside.
use Rattle.std.proofs.Common.{◌≡◌, ℕ, ◌+◌, ◌<◌, List, [], ◌∷◌, ◌++◌, length, drop, get_or, Result, Ok, Err, ap, sym, ◌∙◌, subst}
use Rattle.std.proofs.lemmas.List.{append_assoc, drop_more}
use Rattle.tera_syntax_tokens.specs.declared.refusal.Refusal.{Refusal}
use Rattle.tera_syntax_tree.specs.declared.node.Node as declared
use Rattle.tera_syntax_tree.specs.declared.node.DefinedComponent.{DefinedComponent}
use Rattle.tera_syntax_tree.specs.Tree.{Node, body_of, other_of}
use Rattle.tera_syntax_tree.proofs.Walks.{fold_of_bodies}
use Rattle.tera_syntax_tree.specs.Inside.{AllInside, BothInside, NodeInside, NodesInside}
use Rattle.tera_syntax_tree.specs.View.{node_of, nodes_of, defined_of, definitions_of}
use Rattle.tera_syntax.specs.declared.blocks.PlacedName.{PlacedName}
use Rattle.tera_syntax.specs.Names.{NameAt, component_at, components_at}
use Rattle.tera_syntax.specs.View.{Gathers, names_of}

-- the next node, and those behind it
pub next_inside : (size : ℕ) (nodes : List declared.Node) (i : ℕ) (n : declared.Node) → i < length nodes → n ≡ get_or nodes i n → NodesInside size (nodes_of (drop i nodes)) → NodeInside size (node_of n) × NodesInside size (nodes_of (drop (i + 1) nodes))
next_inside size nodes i n l e h =
    let p = subst (λ ns. NodesInside size (nodes_of ns)) (drop_more nodes i n l) h in
    (subst (λ m. NodeInside size (node_of m)) (sym e) p.0, p.1)

-- names that are gathered behind what was gathered before
pub gathered_behind : (result : Result (Unit {0}) Refusal) (old middle new : List PlacedName) (a b : List NameAt) → names_of middle ≡ names_of old ++ a → Gathers b middle result new → Gathers (a ++ b) old result new
gathered_behind (Ok done) old middle new a b m h = h ∙ ap (λ x. x ++ b) m ∙ append_assoc (names_of old) a b
gathered_behind (Err refusal) old middle new a b m h = h

-- where a node lies inside, so do its bodies
pub bodies_inside : (size : ℕ) (n : Node) → NodeInside size n → NodesInside size (body_of n) × NodesInside size (other_of n)
bodies_inside size n inside =
    let lies = subst (λ A. A) (sym (fold_of_bodies (AllInside size) (Unit {0}) BothInside n)) inside in
    (lies.1, lies.2)

-- the next component
pub next_component : (ds : List DefinedComponent) (i : ℕ) (d : DefinedComponent) → i < length ds → d ≡ get_or ds i d → drop i ds ≡ d ∷ drop (i + 1) ds
next_component ds i d l e = drop_more ds i d l ∙ ap (λ x. x ∷ drop (i + 1) ds) (sym e)

-- components of which one more is gathered
pub component_gathered : (old new : List PlacedName) (ds : List DefinedComponent) (i : ℕ) (d : DefinedComponent) (all : List NameAt) → drop i ds ≡ d ∷ drop (i + 1) ds → names_of new ≡ names_of old ++ component_at (defined_of d) ∷ []
    → names_of old ++ components_at (definitions_of (drop i ds)) ≡ all → names_of new ++ components_at (definitions_of (drop (i + 1) ds)) ≡ all
component_gathered old new ds i d all next pushed before =
    ap (λ names. names ++ components_at (definitions_of (drop (i + 1) ds))) pushed
    ∙ append_assoc (names_of old) (component_at (defined_of d) ∷ []) (components_at (definitions_of (drop (i + 1) ds)))
    ∙ ap (λ ds. names_of old ++ components_at (definitions_of ds)) (sym next)
    ∙ before
