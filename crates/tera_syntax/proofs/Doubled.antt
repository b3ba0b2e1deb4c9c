-- Names of which two are the same, where they stand and without that.
use Rattle.std.proofs.Common.{◌≡◌, ◌≤◌, arith, Bool, true, false, not, ℕ, cond, ◌&&◌, ◌||◌, if◌then◌else◌, List, [], ◌∷◌, map, Option, Some, None, is_some, IfSome, IfOk, Result, Ok, Err, option_map, refl, sym, ap, ap₂, ◌∙◌}
use Rattle.std.specs.Cmp.Lexicographic.{nat_list_eq_equiv}
use Rattle.std.specs.Str.{bytes_eq}
use Rattle.std.specs.Option.{option_or, unwrap_or}
use Rattle.std.proofs.lemmas.List.Elements.{All-head, All-tail}
use Rattle.std.proofs.lemmas.Simd.{map-map}
use Rattle.tera_errors.specs.Site.{Name}
use Rattle.tera_errors.specs.declared.span.Span.{Span}
use Rattle.tera_syntax_tree.specs.Tree.{Tree, Node, Content, Block, Nodes, NoNodes, MoreNodes, Signature, Definitions}
use Rattle.tera_syntax_tree.specs.Blocks.{own_block, own_block_name, block_names, are_distinct, is_among, has_each_block_once}
use Rattle.tera_syntax_tree.specs.Definitions.{component_names, has_each_component_once}
use Rattle.tera_syntax_tree.specs.Inside.{Within, NodeInside, NodesInside}
use Rattle.tera_syntax_tree.specs.View.{tree_of}
use Rattle.tera_syntax_tree.proofs.Walks.{gathered_map}
use Rattle.tera_syntax_tree.specs.declared.node.ParserOutput.{ParserOutput}
use Rattle.tera_syntax_tokens.specs.Answers.{Answers}
use Rattle.tera_syntax_tokens.specs.declared.refusal.Refusal.{Refusal}
use Rattle.tera_syntax_tokens.specs.declared.refusal.Refusal.TheVariants.{Syntax, OutOfMemory}
use Rattle.tera_syntax.specs.declared.blocks.PlacedName.{PlacedName}
use Rattle.tera_syntax.specs.File.{once}
use Rattle.tera_syntax.specs.Names.{NameAt, own_block_at, blocks_at, component_at, components_at, text_start, first_text, first_at, again, tree_doubled, RefusesOnly}
use Rattle.tera_syntax.specs.Positions.{NamesWithin}
use Rattle.tera_syntax.specs.View.{names_of}

-- whether a name is told apart doesn't depend on which comes first
flip : (a b : Name) → bytes_eq a b ≡ bytes_eq b a
flip a b = nat_list_eq_equiv.symm a b

some : {A : Type 0} (t : Bool) (v : A) (o : Option A) → is_some (cond t (Some v) o) ≡ (t || is_some o)
some true v o = refl
some false v o = refl

some-or : {A : Type 0} (a b : Option A) → is_some (option_or a b) ≡ (is_some a || is_some b)
some-or None b = refl
some-or (Some x) b = refl

some-map : {A B : Type 0} (f : A → B) (o : Option A) → is_some (option_map f o) ≡ is_some o
some-map f None = refl
some-map f (Some x) = refl

not-and : (a b : Bool) → (a || not b) ≡ not (not a && b)
not-and true b = refl
not-and false b = refl

-- without their positions
abbrev bare : List NameAt → List Name
bare names = map (λ n. n.0) names

-- a name stands somewhere if it is among them
some-first_at : (q : Name) (names : List NameAt) → is_some (first_at q names) ≡ is_among q (bare names)
some-first_at q [] = refl
some-first_at q (n ∷ rest) =
    some (bytes_eq n.0 q) n.1 (first_at q rest) ∙ ap (λ t. t || is_some (first_at q rest)) (flip n.0 q) ∙ ap (λ t. bytes_eq q n.0 || t) (some-first_at q rest)

-- one stands again if not all differ
some-again : (names : List NameAt) → is_some (again names) ≡ not (are_distinct (bare names))
some-again [] = refl
some-again (n ∷ rest) =
    some-or (first_at n.0 rest) (again rest) ∙ ap₂ (λ a b. a || b) (some-first_at n.0 rest) (some-again rest) ∙ not-and (is_among n.0 (bare rest)) (are_distinct (bare rest))

module _ (size : ℕ) where
  within-cond : (t : Bool) (v : Span) (o : Option Span) → Within size v → IfSome o (Within size) → IfSome (cond t (Some v) o) (Within size)
  within-cond true v o l r = l
  within-cond false v o l r = r

  within-first_at : (q : Name) (names : List PlacedName) → NamesWithin size names → IfSome (first_at q (names_of names)) (Within size)
  within-first_at q [] all = tt
  within-first_at q (n ∷ rest) all =
      within-cond (bytes_eq n.name.now q) n.span (first_at q (names_of rest)) (All-head (λ n. Within size n.span) n rest all) (within-first_at q rest (All-tail (λ n. Within size n.span) n rest all))

  within-or : (a b : Option Span) → IfSome a (Within size) → IfSome b (Within size) → IfSome (option_or a b) (Within size)
  within-or None b l r = r
  within-or (Some x) b l r = l

  -- where one stands again lies where all of them do
  pub within-again : (names : List PlacedName) → NamesWithin size names → IfSome (again (names_of names)) (Within size)
  within-again [] all = tt
  within-again (n ∷ rest) all =
      let behind = All-tail (λ n. Within size n.span) n rest all in
      within-or (first_at n.name.now (names_of rest)) (again (names_of rest)) (within-first_at n.name.now rest behind) (within-again rest behind)

own_bare : (node : Node) → bare (own_block_at node) ≡ own_block_name node
own_bare (Block n body span) = refl
own_bare _ = refl

own_named : (node : Node) → map (λ b. b.0) (own_block node) ≡ own_block_name node
own_named (Block n body span) = refl
own_named _ = refl

bare-blocks_at : (nodes : Nodes) → bare (blocks_at nodes) ≡ block_names nodes
bare-blocks_at nodes =
    gathered_map (λ n. n.0) own_block_at own_block_name own_bare nodes
    ∙ sym (gathered_map (λ b. b.0) own_block own_block_name own_named nodes)

bare-components_at : (ds : Definitions) → bare (components_at ds) ≡ component_names ds
bare-components_at ds = map-map (λ n. n.0) component_at ds

guarded : (a b : Bool) (tree : Tree) → (if a && b then Some tree else None) ≡ (if not a || not b then None else Some tree)
guarded true true tree = refl
guarded true false tree = refl
guarded false b tree = refl

-- where nothing is refused of a tree it stays, and otherwise nothing is meant
pub once-doubled : (tree : Tree) → once tree ≡ (if is_some (tree_doubled tree) then None else Some tree)
once-doubled tree =
    let b = blocks_at tree.nodes in
    let c = components_at tree.definitions in
    let of_blocks : is_some (again b) ≡ not (has_each_block_once tree.nodes) = some-again b ∙ ap (λ names. not (are_distinct names)) (bare-blocks_at tree.nodes) in
    let of_components : is_some (again c) ≡ not (has_each_component_once tree) = some-again c ∙ ap (λ names. not (are_distinct names)) (bare-components_at tree.definitions) in
    let all = some-or _ _ ∙ ap₂ (λ x y. x || y) (some-map _ (again b) ∙ of_blocks) (some-map _ (again c) ∙ of_components) in
    guarded (has_each_block_once tree.nodes) (has_each_component_once tree) tree ∙ ap (λ t. if t then None else Some tree) (sym all)

-- a tree stays, or is refused, as it is meant
pub answers_once : (output : ParserOutput) (result : Result ParserOutput Refusal) → RefusesOnly (tree_doubled (tree_of output)) result → IfOk result (λ given. given ≡ output)
    → Answers tree_of (once (tree_of output)) result
answers_once output (Ok given) only same = once-doubled (tree_of output) ∙ ap (λ o. if is_some o then None else Some (tree_of output)) only ∙ ap (λ o. Some (tree_of o)) (sym same)
answers_once output (Err (Syntax why span)) only same = once-doubled (tree_of output) ∙ ap (λ o. if is_some o then None else Some (tree_of output)) only
answers_once output (Err OutOfMemory) only same = tt

-- where the first text begins lies where all does
pub first_text-within : (size : ℕ) (nodes : Nodes) → NodesInside size nodes → first_text nodes ≤ size
first_text-within size NoNodes inside = omega arith
first_text-within size (MoreNodes n rest) inside = by_node n inside.0 (first_text-within size rest inside.1)
  where
    by_node : (n : Node) → NodeInside size n → first_text rest ≤ size → unwrap_or (text_start n) (first_text rest) ≤ size
    by_node (Content t span) inside le = let lies : (span.start ≤ span.end) × (span.end ≤ size) = inside.0.3 in let a = lies.0 in let b = lies.1 in omega (arith, a, b)
    by_node _ inside le = le

-- a component stands where its body lies
pub component-within : (size : ℕ) (d : Signature × Nodes) → NodesInside size d.1 → Within size (component_at d).1
component-within size d inside = let le = first_text-within size d.1 inside in (omega arith, le)
