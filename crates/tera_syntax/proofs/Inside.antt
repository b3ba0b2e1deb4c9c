-- All spans of a tree lie inside the text that spells it.
use Rattle.std.proofs.Common.{◌≡◌, ℕ, arith, Bool, true, false, List, Option, length, IsTrue, refl, sym, ap, ◌∙◌}
use Rattle.std.specs.Str.{IsUtf8}
use Rattle.tera_errors.specs.Site.{Name, Text}
use Rattle.tera_syntax_tree.specs.Delimiters.{delimiters_of, accepted}
use Rattle.tera_syntax_tree.specs.declared.delimiters.Delimiters.{Delimiters}
use Rattle.tera_syntax_tree.specs.Tree.{Expr, Filters, Node, Nodes, NoNodes, MoreNodes, Definitions, Tree}
use Rattle.tera_syntax_tree.specs.Inside.{Within, ExprInside, FiltersInside, TagInside, NodeInside, NodesInside, DefinitionsInside, Inside}
use Rattle.tera_syntax_tokens.specs.declared.token.Kind.{Kind}
use Rattle.tera_syntax_tokens.specs.declared.token.Kind.TheVariants as k
use Rattle.tera_syntax_tokens.specs.Token.{Token}
use Rattle.tera_syntax_tokens.specs.Input.{Input, begin, kind, start, next, span, is_word}
use Rattle.tera_syntax_tokens.specs.Cut.{Piece}
use Rattle.tera_syntax_tokens.specs.Stretches.{InOrder}
use Rattle.tera_syntax_tokens.proofs.Order.{in_order-le, Orderly, Onward, onward_next, onward_then, start_le}
use Rattle.tera_syntax_tokens.proofs.Stretches.{PiecesInside, pieces_inside}
use Rattle.tera_syntax_expressions.proofs.Calls.{calls_lie}
use Rattle.tera_syntax_expressions.proofs.Inside.{expr_lies, attributes_lie, filters_lie}
use Rattle.tera_syntax.specs.declared.heads.Surroundings.{Surroundings}
use Rattle.tera_syntax.specs.Heads.{Head, IfHead, ForHead, make, first}
use Rattle.tera_syntax.specs.Grammar.{DerivesWhole, whole, DerivesPipe, pipe, Simple, set, includes, Opens, choice, loop, capture, filtered, section, block, call, GoesOn, elif, DerivesNodes, empty, content, blank, comment, print, single, bodied, DerivesRest, ended, split, chained, join, DerivesParts, last, component, DerivesFile, root, child}
use Rattle.tera_syntax.specs.Spells.{Spells}

-- nodes that were read between two positions lie inside, and so do the pieces that are left
pub record Lie (size : ℕ) (nodes : Nodes) (j : List Piece) : Type 0 where
  pub inside : NodesInside size nodes
  pub rest : PiecesInside size j

whole_inside : (size : ℕ) {x : Expr} {i : Input} → DerivesWhole x i → Orderly size i → ExprInside size x
whole_inside size (whole d e) o = (expr_lies size d o).inside

pipe_inside : (size : ℕ) {fs : Filters} {i : Input} → DerivesPipe fs i → Orderly size i → FiltersInside size fs
pipe_inside size (pipe d e) o = (filters_lie size d o).inside

behind : (size : ℕ) (i : Input) → Orderly size i → Orderly size (next i)
behind size i o = (onward_next size i o).orderly

behind_two : (size : ℕ) (i : Input) → Orderly size i → Orderly size (next (next i))
behind_two size i o = behind size (next i) (behind size i o)

-- a token that stands here lies inside
token_inside : (size : ℕ) (s : Kind) (i : Input) → kind i ≡ s → (s ≡ k.End → ⊥) → Orderly size i → Within size (span (start i) (next i))
token_inside size s i e n o = (start_le size s i e n o, in_order-le size (next i).last (next i).ahead (behind size i o))

-- the first kind, whatever the tag stands in
first_here : (s : Kind) (q : Bool) (tokens : List Token) → first tokens ≡ s → kind (begin q tokens) ≡ s
unfolding kind
first_here s q tokens e = e

-- what begins with a token lies inside
stretch_inside : (size : ℕ) (s : Kind) (i j : Input) → kind i ≡ s → (s ≡ k.End → ⊥) → Orderly size i → Onward size (next i) j → Within size (span (start i) j)
stretch_inside size s i j e n o w =
    let l = start_le size s i e n o in
    let m = w.later in
    (omega (arith, l, m), in_order-le size j.last j.ahead w.orderly)

simple_inside : (size : ℕ) {q : Surroundings} {node : Node} {tokens : List Token} → Simple q node tokens → InOrder size 0 tokens → NodeInside size node
simple_inside size {q = q} {tokens = tokens} (set b n w) o = ((whole_inside size w (behind_two size (next (begin q.in_loop tokens)) (behind size (begin q.in_loop tokens) o)), tt, tt, tt), tt, tt)
simple_inside size {tokens = tokens} (includes w) o = ((tt, tt, tt, token_inside size k.Text (next (begin false tokens)) w.1 (λ q. cc) (behind size (begin false tokens) o)), tt, tt)
simple_inside size _ o = ((tt, tt, tt, tt), tt, tt)

-- what stands in the tag of a head lies inside
abbrev HeadInside : ℕ → Head → Type 0
HeadInside size head = TagInside size (make head NoNodes NoNodes)

-- a word is not the end of a tag
word-goes-on : (i : Input) → is_word (kind i) ≡ true → kind i ≡ k.End → ⊥
unfolding is_word
word-goes-on i w e = (let f : is_word k.End ≡ true = ap is_word (sym e) ∙ w in cc)

opens_inside : (size : ℕ) {q : Surroundings} {head : Head} {tokens : List Token} → Opens q head tokens → InOrder size 0 tokens → HeadInside size head
opens_inside size {q = q} {tokens = tokens} (choice e w) o = (whole_inside size w (behind size (begin q.in_loop tokens) o), tt, tt, tt)
opens_inside size {q = q} {tokens = tokens} (loop e c w) o = let n = calls_lie size c (behind size (begin q.in_loop tokens) o) in (whole_inside size w n.orderly, tt, tt, tt)
opens_inside size (capture b n) o = (tt, tt, tt, tt)
opens_inside size {q = q} {tokens = tokens} (filtered b n w) o = (tt, pipe_inside size w (behind_two size (next (begin q.in_loop tokens)) (behind size (begin q.in_loop tokens) o)), tt, tt)
opens_inside size {q = q} {tokens = tokens} (section b w) o = (tt, pipe_inside size w (behind size (begin q.in_loop tokens) o), tt, tt)
opens_inside size {q = q} {tokens = tokens} (call {a = a} e w d g f) o =
    let i = begin q.in_loop tokens in
    let n = onward_next size i o in
    let m = onward_next size (next i) n.orderly in
    let p = attributes_lie size d m.orderly in
    (tt, tt, p.inside, stretch_inside size k.Less i (next a) (first_here k.Less q.in_loop tokens e) (λ q. cc) o (onward_then m (onward_then p.onward (onward_next size a p.onward.orderly))))
opens_inside size {q = q} {tokens = tokens} (block m b w n) o =
    let i = next (begin q.in_loop tokens) in
    (tt, tt, tt, token_inside size (kind i) i refl (word-goes-on i w) (behind size (begin q.in_loop tokens) o))

goes_on_inside : (size : ℕ) {q : Surroundings} {head : Head} {tokens : List Token} → GoesOn q head tokens → InOrder size 0 tokens → HeadInside size head
goes_on_inside size {q = q} {tokens = tokens} (elif e w) o = (whole_inside size w (behind size (begin q.in_loop tokens) o), tt, tt, tt)

-- what a head makes lies inside, where its bodies do
made_inside : (size : ℕ) (head : Head) (body other : Nodes) → HeadInside size head → NodesInside size body → NodesInside size other → NodeInside size (make head body other)
made_inside size (IfHead c) body other h b o = (h, b, o)
made_inside size (ForHead key n e) body other h b o = (h, b, o)
made_inside size _ body other h b o = (h, b, tt)

mutual
  nodes_lie : (size : ℕ) {q : Surroundings} {nodes : Nodes} {i j : List Piece} → DerivesNodes q nodes i j → PiecesInside size i → Lie size nodes j
  nodes_lie size empty h = record { inside = tt; rest = h }
  nodes_lie size (content n d) h = let p = nodes_lie size d h.1 in record { inside = (((tt, tt, tt, h.0), tt, tt), p.inside); rest = p.rest }
  nodes_lie size (blank d) h = nodes_lie size d h.1
  nodes_lie size (comment d) h = nodes_lie size d h.1
  nodes_lie size (print w d) h = let p = nodes_lie size d h.1 in record { inside = (((whole_inside size w h.0, tt, tt, tt), tt, tt), p.inside); rest = p.rest }
  nodes_lie size (single a d) h = let p = nodes_lie size d h.1 in record { inside = (simple_inside size a h.0, p.inside); rest = p.rest }
  nodes_lie size (bodied {head = head} {body = body} {other = other} a d o r) h =
      let b = nodes_lie size d h.1 in
      let e = rest_lie size o b.rest in
      let rest = nodes_lie size r e.rest in
      record { inside = (made_inside size head body other (opens_inside size a h.0) b.inside e.inside, rest.inside); rest = rest.rest }

  rest_lie : (size : ℕ) {q : Surroundings} {head : Head} {nodes : Nodes} {i j : List Piece} → DerivesRest q head nodes i j → PiecesInside size i → Lie size nodes j
  rest_lie size (ended e) h = record { inside = tt; rest = h.1 }
  rest_lie size (split s w d e) h = let p = nodes_lie size d h.1 in record { inside = p.inside; rest = p.rest.1 }
  rest_lie size (chained {further = further} {body = body} {other = other} s g d o) h =
      let b = nodes_lie size d h.1 in
      let e = rest_lie size o b.rest in
      record { inside = (made_inside size further body other (goes_on_inside size g h.0) b.inside e.inside, tt); rest = e.rest }

joined_lie : (size : ℕ) (a b : Nodes) → NodesInside size a → NodesInside size b → NodesInside size (join a b)
joined_lie size NoNodes b p q = q
joined_lie size (MoreNodes n rest) b p q = (p.0, joined_lie size rest b p.1 q)

parts_lie : (size : ℕ) {nodes : Nodes} {ds : Definitions} {i : List Piece} → DerivesParts nodes ds i → PiecesInside size i → NodesInside size nodes × DefinitionsInside size ds
parts_lie size (last d) h = ((nodes_lie size d h).inside, tt)
parts_lie size (component {before = before} {nodes = nodes} d a b w r) h =
    let front = nodes_lie size d h in
    let body = nodes_lie size b front.rest.1 in
    let rest = parts_lie size r body.rest.1 in
    (joined_lie size before nodes front.inside rest.0, (body.inside, rest.1))

file_lies : (size : ℕ) {parent : Option Name} {nodes : Nodes} {ds : Definitions} {i : List Piece} → DerivesFile parent nodes ds i → PiecesInside size i → NodesInside size nodes × DefinitionsInside size ds
file_lies size (root d) h = parts_lie size d h
file_lies size (child {front = front} {nodes = nodes} d s e r) h =
    let before = nodes_lie size d h in
    let rest = parts_lie size r before.rest.1 in
    (joined_lie size front nodes before.inside rest.0, rest.1)

pub tree_inside : (name : Name) (d : Delimiters) (text : Text) (tree : Tree) → IsTrue (accepted (delimiters_of d)) → IsUtf8 text → Spells name (delimiters_of d) text tree → Inside (length text) tree
tree_inside name d text tree usable u spelled = file_lies (length text) spelled (pieces_inside d usable text u)
