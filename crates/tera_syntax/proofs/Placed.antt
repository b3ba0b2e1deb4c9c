-- In what is derived, `break`, `continue` and blocks stand in their places.
use Rattle.std.proofs.Common.{◌≡◌, Bool, true, false, ◌&&◌, List, [], ◌++◌, IsTrue, refl, sym, ap, ap₂, ◌∙◌}
use Rattle.tera_syntax_tokens.specs.Token.{Token}
use Rattle.tera_syntax_tokens.specs.Cut.{Piece}
use Rattle.tera_syntax_tree.specs.Tree.{Node, Nodes, NoNodes, MoreNodes, Definitions}
use Rattle.tera_syntax_tree.specs.Leaving.{node_in_place, in_place, definitions_in_place}
use Rattle.tera_syntax_tree.specs.Blocks.{node_blocks, blocks}
use Rattle.tera_syntax_tree.specs.Definitions.{is_empty, have_no_blocks}
use Rattle.tera_syntax.specs.declared.heads.Surroundings.{Surroundings}
use Rattle.tera_syntax.specs.Heads.{Head, IfHead, ForHead, BlockHead, make, inside}
use Rattle.tera_syntax.specs.Grammar.{Simple, set, includes, breaks, continues, Opens, block, elif, join, DerivesNodes, empty, content, blank, comment, print, single, bodied, DerivesRest, ended, split, chained, DerivesParts, last, component}

pub and-true : (a b : Bool) → a ≡ true → b ≡ true → (a && b) ≡ true
and-true true b e f = f
and-true false b e f = absurd (cc)

simple_placed : {q : Surroundings} {node : Node} {tokens : List Token} → Simple q node tokens → IsTrue (node_in_place q.may_leave node)
simple_placed (breaks l w) = and-true _ true l refl
simple_placed (continues l w) = and-true _ true l refl
simple_placed _ = refl

made_placed : (q : Surroundings) (head : Head) (body other : Nodes) → IsTrue (in_place (inside head q).may_leave body) → IsTrue (in_place q.may_leave other) → IsTrue (node_in_place q.may_leave (make head body other))
made_placed q (IfHead c) body other b o = and-true (in_place q.may_leave body) (in_place q.may_leave other) b o
made_placed q (ForHead key n e) body other b o = and-true (in_place true body) (in_place q.may_leave other) b o
made_placed q (BlockHead n span) body other b o = and-true (in_place false body) true b refl
made_placed q _ body other b o = and-true (in_place q.may_leave body) true b refl

mutual
  pub derived_placed : {q : Surroundings} {x : Nodes} {i j : List Piece} → DerivesNodes q x i j → IsTrue (in_place q.may_leave x)
  derived_placed empty = refl
  derived_placed (content n d) = derived_placed d
  derived_placed (blank d) = derived_placed d
  derived_placed (comment d) = derived_placed d
  derived_placed (print w d) = derived_placed d
  derived_placed {q = q} (single {node = n} {rest = rest} a d) = and-true (node_in_place q.may_leave n) (in_place q.may_leave rest) (simple_placed a) (derived_placed d)
  derived_placed {q = q} (bodied {head = h} {body = body} {other = other} {rest = rest} a b o d) =
      and-true (node_in_place q.may_leave (make h body other)) (in_place q.may_leave rest) (made_placed q h body other (derived_placed b) (rest_placed o)) (derived_placed d)

  rest_placed : {q : Surroundings} {head : Head} {x : Nodes} {i j : List Piece} → DerivesRest q head x i j → IsTrue (in_place q.may_leave x)
  rest_placed (ended e) = refl
  rest_placed (split s w d e) = derived_placed d
  rest_placed {q = q} (chained {further = f} {body = body} {other = other} s g d o) =
      and-true (node_in_place q.may_leave (make f body other)) true (made_placed q f body other (derived_placed d) (rest_placed o)) refl

and-and : (a b c : Bool) → (a && b) ≡ true → c ≡ true → (a && (b && c)) ≡ true
and-and true true c e f = f
and-and true false c e f = absurd (cc)
and-and false b c e f = absurd (cc)

-- two rows, one behind the other
pub joined_placed : (a b : Nodes) → IsTrue (in_place false a) → IsTrue (in_place false b) → IsTrue (in_place false (join a b))
joined_placed NoNodes b p r = r
joined_placed (MoreNodes n rest) b p r = with_node (node_in_place false n) (in_place false rest) (in_place false (join rest b)) p (λ q. joined_placed rest b q r)
  where
    with_node : (a b c : Bool) → (a && b) ≡ true → (b ≡ true → c ≡ true) → (a && c) ≡ true
    with_node true b c e f = f e
    with_node false b c e f = absurd (cc)

-- Where no block may stand, there is none

simple_bare : {q : Surroundings} {node : Node} {tokens : List Token} → Simple q node tokens → node_blocks node ≡ []
simple_bare (set b n w) = refl
simple_bare (includes w) = refl
simple_bare (breaks l w) = refl
simple_bare (continues l w) = refl

-- a statement with this head may stand here
abbrev MayOpen : Surroundings → Head → Type 0
MayOpen q (BlockHead n span) = IsTrue q.may_have_blocks
MayOpen q _ = Unit {0}

opens_may : {q : Surroundings} {head : Head} {tokens : List Token} → Opens q head tokens → MayOpen q head
opens_may (block m b w n) = m
opens_may _ = tt

inside_may : (q : Surroundings) (head : Head) → (inside head q).may_have_blocks ≡ q.may_have_blocks
inside_may q (ForHead key n e) = refl
inside_may q (BlockHead n span) = refl
inside_may q _ = refl

made_bare : (q : Surroundings) (head : Head) (body other : Nodes) → MayOpen q head → q.may_have_blocks ≡ false → blocks body ≡ [] → blocks other ≡ [] → node_blocks (make head body other) ≡ []
made_bare q (IfHead c) body other m n b o = ap₂ (λ x y. x ++ y) b o
made_bare q (ForHead key name e) body other m n b o = ap₂ (λ x y. x ++ y) b o
made_bare q (BlockHead name span) body other m n b o = let e : true ≡ false = sym m ∙ n in absurd (cc)
made_bare q _ body other m n b o = ap (λ x. x ++ []) b

mutual
  derived_bare : {q : Surroundings} {x : Nodes} {i j : List Piece} → q.may_have_blocks ≡ false → DerivesNodes q x i j → blocks x ≡ []
  derived_bare e empty = refl
  derived_bare e (content n d) = derived_bare e d
  derived_bare e (blank d) = derived_bare e d
  derived_bare e (comment d) = derived_bare e d
  derived_bare e (print w d) = derived_bare e d
  derived_bare e (single a d) = ap₂ (λ x y. x ++ y) (simple_bare a) (derived_bare e d)
  derived_bare {q = q} e (bodied {head = h} {body = body} {other = other} a b o d) =
      ap₂ (λ x y. x ++ y) (made_bare q h body other (opens_may a) e (derived_bare (inside_may q h ∙ e) b) (rest_bare e o)) (derived_bare e d)

  rest_bare : {q : Surroundings} {head : Head} {x : Nodes} {i j : List Piece} → q.may_have_blocks ≡ false → DerivesRest q head x i j → blocks x ≡ []
  rest_bare e (ended w) = refl
  rest_bare e (split s w d f) = derived_bare e d
  rest_bare {q = q} e (chained {body = body} {other = other} s (elif {c = c} f w) d o) = ap₂ (λ x y. x ++ y) (made_bare q (IfHead c) body other tt e (derived_bare e d) (rest_bare e o)) refl

-- All of a text

pub parts_placed : {x : Nodes} {ds : Definitions} {i : List Piece} → DerivesParts x ds i → IsTrue (in_place false x && definitions_in_place ds)
parts_placed {x = x} (last d) = and-true (in_place false x) true (derived_placed d) refl
parts_placed (component {before = before} {body = body} {nodes = nodes} {definitions = ds} d a b w r) =
    with_component (in_place false nodes) (in_place false (join before nodes)) (in_place false body) (definitions_in_place ds) (parts_placed r) (λ p. joined_placed before nodes (derived_placed d) p) (derived_placed b)
  where
    with_component : (n j b c : Bool) → (n && c) ≡ true → (n ≡ true → j ≡ true) → b ≡ true → (j && (b && c)) ≡ true
    with_component true j b c e f g = and-and j b c (and-true j b (f refl) g) e
    with_component false j b c e f g = absurd (cc)

pub parts_outside : {x : Nodes} {ds : Definitions} {i : List Piece} → DerivesParts x ds i → IsTrue (have_no_blocks ds)
parts_outside (last d) = refl
parts_outside (component {body = body} {definitions = ds} d a b w r) = and-true (is_empty (blocks body)) (have_no_blocks ds) (ap is_empty (derived_bare refl b)) (parts_outside r)
