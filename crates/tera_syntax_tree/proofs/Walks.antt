-- Folds of nodes, and walks over them.
use Rattle.std.proofs.Common.{◌≡◌, ℕ, zero, suc, ◌+◌, ◌*◌, ◌<◌, Bool, true, false, ◌||◌, List, [], ◌∷◌, ◌++◌, length, get_or, if◌then◌else◌, Result, Ok, Err, OnOk, append_assoc, refl, map, sym, ap, ap₂, subst₂, ◌∙◌, arith}
use Rattle.tera_errors.specs.Site as site
use Rattle.tera_syntax_tree.specs.declared.node.Node as declared
use Rattle.std.proofs.lemmas.List.{map-append}
use Rattle.tera_syntax_tree.specs.Free.{Names, nobody, tag_free, body_names, is_loop, own_binds, bind_node, bind_first, node_binds, binds, free_node, free_first, node_free, free, ◌∪◌, ◌∖◌}
use Rattle.tera_syntax_tree.specs.Gathered.{gather_node, gather_first, gathered, node_gathered, is_entered}
use Rattle.tera_syntax_tree.specs.Blocks.{own_block, own_block_name, blocks, top_blocks}
use Rattle.tera_syntax_tree.specs.Depth.{deepen, deepest, node_depth, nodes_depth}
use Rattle.tera_syntax_tree.specs.Tree.{Node, Block, Break, Nodes, NoNodes, MoreNodes, body_of, other_of, fold_node, fold}
use Rattle.tera_syntax_tree.specs.View.{node_of, nodes_of}

-- a node is made of what stands in its tag and of its bodies
pub fold_of_bodies {ℓ} : {A : Type ℓ} (own : Node → A → A → A) (none : A) (put : Node → A → A → A) (n : Node) → own n (fold own none put (body_of n)) (fold own none put (other_of n)) ≡ fold_node own none put n
fold_of_bodies own none put Break = refl
fold_of_bodies own none put _ = refl

-- the bodies of a node are less deep than the node
pub body_is_below : (n : Node) → nodes_depth (body_of n) < node_depth n
body_is_below n = let e = fold_of_bodies deepen 0 deepest n in omega (arith, e)

pub other_is_below : (n : Node) → nodes_depth (other_of n) < node_depth n
other_is_below n = let e = fold_of_bodies deepen 0 deepest n in omega (arith, e)

-- what is gathered from a node is what it gives by itself and what its bodies give, where they are entered
pub gathered_of_bodies : {A : Type 0} (in_blocks : Bool) (own : Node → List A) (n : Node)
    → own n ++ (if is_entered in_blocks n then gathered in_blocks own (body_of n) ++ gathered in_blocks own (other_of n) else []) ≡ node_gathered in_blocks own n
gathered_of_bodies in_blocks own n = fold_of_bodies (gather_node in_blocks own) [] gather_first n

-- what is gathered in blocks, too, is what a node gives by itself and what its bodies give
pub gathered_everywhere : {A : Type 0} (own : Node → List A) (n : Node) → own n ++ (gathered true own (body_of n) ++ gathered true own (other_of n)) ≡ node_gathered true own n
gathered_everywhere own n =
    ap (λ b. own n ++ (if b then gathered true own (body_of n) ++ gathered true own (other_of n) else [])) (sym (is_always_entered n))
    ∙ gathered_of_bodies true own n
  where
    is_always_entered : (n : Node) → is_entered true n ≡ true
    is_always_entered (Block n body span) = refl
    is_always_entered _ = refl

-- what is found where a walk finds what a node gives by itself, and then what is in its bodies
pub found_in_turn : {B E : Type 0} (old middle last new own body other whole : List B) (r : Result (Unit {0}) E) → own ++ (body ++ other) ≡ whole
    → middle ≡ old ++ own → last ≡ middle ++ body → OnOk r (new ≡ last ++ other) → OnOk r (new ≡ old ++ whole)
found_in_turn old middle last new own body other whole (Ok done) is first second third =
    third
    ∙ ap (λ x. x ++ other) (second ∙ ap (λ x. x ++ body) first)
    ∙ append_assoc (old ++ own) body other
    ∙ append_assoc old own (body ++ other)
    ∙ ap (λ x. old ++ x) is
found_in_turn old middle last new own body other whole (Err e) is first second third = tt

-- What two folds make of the same nodes is in a relation, where what they make of no nodes is, and where their steps keep it.
module _ {A B : Type 0} (Related : A → B → Type 0) (own : Node → A → A → A) (none : A) (put : Node → A → A → A) (own' : Node → B → B → B) (none' : B) (put' : Node → B → B → B)
    (same_none : Related none none') (same_own : (n : Node) (x y : A) (x' y' : B) → Related x x' → Related y y' → Related (own n x y) (own' n x' y'))
    (same_put : (n : Node) (x y : A) (x' y' : B) → Related x x' → Related y y' → Related (put n x y) (put' n x' y')) where
  -- of nodes as deep as this
  abbrev Related_to : ℕ → Type 0
  Related_to k = (ns : Nodes) → nodes_depth ns < k → Related (fold own none put ns) (fold own' none' put' ns)

  deeper : (k : ℕ) → Related_to k → Related_to (suc k)
  deeper k before NoNodes le = same_none
  deeper k before (MoreNodes n rest) le =
      let b = body_is_below n in
      let o = other_is_below n in
      let whole = same_own n _ _ _ _ (before (body_of n) (omega (arith, b, le))) (before (other_of n) (omega (arith, o, le))) in
      same_put n _ _ _ _ (subst₂ Related (fold_of_bodies own none put n) (fold_of_bodies own' none' put' n) whole) (deeper k before rest (omega (arith, le)))

  to_depth : (k : ℕ) → Related_to k
  to_depth zero ns le = absurd (omega (arith, le))
  to_depth (suc k) ns le = deeper k (to_depth k) ns le

  pub folds : (ns : Nodes) → Related (fold own none put ns) (fold own' none' put' ns)
  folds ns = to_depth (suc (nodes_depth ns)) ns (omega arith)

-- what each thing that is gathered is seen as may be gathered as well
pub gathered_map : {A B : Type 0} (f : A → B) (own : Node → List A) (seen : Node → List B) → ((n : Node) → map f (own n) ≡ seen n) → (ns : Nodes) → map f (gathered true own ns) ≡ gathered true seen ns
gathered_map {A = A} {B = B} f own seen same =
    folds (λ xs ys. map f xs ≡ ys) (gather_node true own) [] gather_first (gather_node true seen) [] gather_first refl
    (λ n x y x' y' a b. map-append f (own n) _ ∙ ap₂ (λ x y. x ++ y) (same n) (within (is_entered true n) x y x' y' a b))
    (λ n x y x' y' a b. map-append f x y ∙ ap₂ (λ x y. x ++ y) a b)
  where
    within : (q : Bool) (x y : List A) (x' y' : List B) → map f x ≡ x' → map f y ≡ y' → map f (if q then x ++ y else []) ≡ (if q then x' ++ y' else [])
    within true x y x' y' a b = map-append f x y ∙ ap₂ (λ x y. x ++ y) a b
    within false x y x' y' a b = refl

both_empty : {A : Type 0} (xs ys : List A) → xs ++ ys ≡ [] → (xs ≡ []) × (ys ≡ [])
both_empty [] ys h = (refl, h)
both_empty (x ∷ xs) ys h = (let q : x ∷ (xs ++ ys) ≡ [] = h in cc)

-- nodes that have no block outside of all others have none
pub have_no_blocks : (ns : Nodes) → top_blocks ns ≡ [] → blocks ns ≡ []
have_no_blocks =
    folds (λ (xs : List site.Name) (ys : List (site.Name × Nodes)). xs ≡ [] → ys ≡ []) (gather_node false own_block_name) [] gather_first (gather_node true own_block) [] gather_first (λ h. refl)
    in_node
    (λ n x y x' y' a b h. let s = both_empty x y h in ap₂ (λ x y. x ++ y) (a s.0) (b s.1))
  where
    in_node : (n : Node) (x y : List site.Name) (x' y' : List (site.Name × Nodes)) → (x ≡ [] → x' ≡ []) → (y ≡ [] → y' ≡ []) → gather_node false own_block_name n x y ≡ [] → gather_node true own_block n x' y' ≡ []
    in_node (Block n body span) x y x' y' a b h = (let q : n ∷ [] ≡ [] = h in cc)
    in_node _ x y x' y' a b h = let s = both_empty x y h in ap₂ (λ x y. x ++ y) (a s.0) (b s.1)

-- what a node binds behind a loop is what it sets itself and what its bodies bind
pub binds_of_bodies : (in_loop : Bool) (n : Node) → own_binds in_loop n ∪ (binds (in_loop || is_loop n) (body_of n) ∪ binds in_loop (other_of n)) ≡ node_binds in_loop n
binds_of_bodies in_loop n = ap (λ (f : Bool → Names). f in_loop) (fold_of_bodies bind_node (λ in_loop. nobody) bind_first n)

-- what is free in a node is what its tag looks up, and what its bodies do that nothing binds
pub free_of_bodies : (n : Node) → tag_free n ∪ ((free (body_of n) ∖ body_names n) ∪ (free (other_of n) ∖ binds (is_loop n) (body_of n))) ≡ node_free n
free_of_bodies n = fold_of_bodies free_node nobody free_first n

-- The measure of a walk over a node, and of one over nodes: it decreases from nodes to each of them, and from a node to its bodies.
abbrev pub node_measure : declared.Node → ℕ
node_measure n = 2 * node_depth (node_of n)

abbrev pub nodes_measure : List declared.Node → ℕ
nodes_measure ns = 2 * nodes_depth (nodes_of ns) + 1

pub falls_to_body : (n : declared.Node) (xs : List declared.Node) → nodes_of xs ≡ body_of (node_of n) → nodes_measure xs < node_measure n
falls_to_body n xs is = let b = body_is_below (node_of n) in let d = ap nodes_depth is in omega (arith, b, d)

pub falls_to_other : (n : declared.Node) (xs : List declared.Node) → nodes_of xs ≡ other_of (node_of n) → nodes_measure xs < node_measure n
falls_to_other n xs is = let b = other_is_below (node_of n) in let d = ap nodes_depth is in omega (arith, b, d)

pub falls_to_node : (ns : List declared.Node) (i : ℕ) (n : declared.Node) → i < length ns → n ≡ get_or ns i n → node_measure n < nodes_measure ns
falls_to_node [] i n l e = absurd (omega (arith, l))
falls_to_node (m ∷ ns) zero n l e = let d = ap (λ x. node_depth (node_of x)) e in omega (arith, d)
falls_to_node (m ∷ ns) (suc i) n l e = let d = falls_to_node ns i n (omega (arith, l)) e in omega (arith, d)
