-- The reader of a whole text: what is read is spelled, and the other way round.
use Rattle.std.proofs.Common.{◌≡◌, ℕ, ◌<◌, ◌≤◌, max, nat_lt, List, [], ◌∷◌, Bool, true, false, ◌&&◌, Option, Some, None, IsTrue, if◌then◌else◌, bytes_eq, codes, refl, ap, ap₂, sym, ◌∙◌, subst, arith}
use Rattle.std.specs.Prelude.{option_map, option_and_then}
use Rattle.std.specs.Str.{trim_start, chars}
use Rattle.tera_errors.specs.Site.{Name}
use Rattle.tera_errors.specs.declared.span.Span.{Span}
use Rattle.tera_syntax_tree.specs.Tree.{Content, Node, Nodes, NoNodes, MoreNodes, Definitions, Tree}
use Rattle.tera_syntax_tree.specs.Depth.{nodes_depth, definitions_depth, tree_depth}
use Rattle.tera_syntax_tree.specs.Leaving.{in_place, definitions_in_place}
use Rattle.tera_syntax_tree.specs.Blocks.{has_each_block_once}
use Rattle.tera_syntax_tree.specs.Definitions.{have_no_blocks, has_each_component_once}
use Rattle.tera_syntax_tokens.specs.declared.token.Kind.TheVariants as k
use Rattle.tera_syntax_tokens.specs.Token.{Token}
use Rattle.tera_syntax_tokens.specs.Input.{begin, next, same}
use Rattle.tera_syntax_tokens.specs.Cut.{Piece, Words, Comment, Variable, Block, Broken}
use Rattle.tera_syntax_expressions.proofs.Steps.{guard}
use Rattle.tera_syntax.specs.declared.heads.Surroundings.{Surroundings}
use Rattle.tera_syntax.specs.Heads.{Head, IfHead, outside, make, is_component, is_extends}
use Rattle.tera_syntax.specs.Grammar.{Begins, Extends, Simple, set, includes, breaks, continues, join, is_space, are_spaces, DerivesNodes, empty, content, blank, comment, print, single, bodied, DerivesFile, root, child}
use Rattle.tera_syntax.specs.Reader.{Progress, has_room, one, quoted_name, room, signed, taken, statement}
use Rattle.tera_syntax.specs.Parts.{Parts, component_begun, plain_step, parts_step, parts_read_on}
use Rattle.tera_syntax.specs.File.{File, extending, kept, file_read_on, spelled, once, file}
use Rattle.tera_syntax.proofs.Rows.{both-fit, join-none, join-join, deep, deepest, join-deep}
use Rattle.tera_syntax.proofs.Whole.{both, begun_sound, begun_complete}
use Rattle.tera_syntax.proofs.OneTag.{quotes-got, quotes-is, extends_read}
use Rattle.tera_syntax.proofs.Complete.{at, put-read}
use Rattle.tera_syntax.proofs.Sound.{among, if_then, has-room}
use Rattle.tera_syntax.proofs.Beside.{parts_sound, parts_complete}
use Rattle.tera_syntax.proofs.Placed.{and-true, derived_placed, joined_placed, parts_placed, parts_outside}

-- all that a text has beside its parent
abbrev All : Type 0
All = Nodes × Definitions

abbrev tree_with : Option Name → All → Tree
tree_with parent all = record { parent = parent; nodes = all.0; definitions = all.1 }

abbrev state : Option Name → Bool → Parts → File
state parent is_front p = record { parent = parent; is_front = is_front; parts = p }

-- what was read where nothing is open: these nodes
abbrev top : Nodes → Parts
top found = among [] None (at outside [] found)

-- no two blocks have one name, and no two components
abbrev pub IsOnce : Tree → Type 0
IsOnce tree = IsTrue (has_each_block_once tree.nodes) × IsTrue (has_each_component_once tree)

no_words : is_space [] ≡ true
unfolding trim_start chars
no_words = refl

and-false : (a : Bool) → (a && false) ≡ false
and-false true = refl
and-false false = refl

no-component : (tokens : List Token) → Begins (codes "extends") tokens → is_component tokens ≡ false
no-component tokens b = ap₂ (λ s w. same k.Name s && bytes_eq w (codes "component")) b.0 b.1 ∙ and-false (same k.Name k.Name)

-- what is no text is no white space
simple-fills : {q : Surroundings} {node : Node} {tokens : List Token} → Simple q node tokens → (rest : Nodes) → are_spaces (MoreNodes node rest) ≡ true → ⊥
simple-fills (set b n w) rest h = absurd (cc)
simple-fills (includes w) rest h = absurd (cc)
simple-fills (breaks l w) rest h = absurd (cc)
simple-fills (continues l w) rest h = absurd (cc)

made-fills : (head : Head) (body other rest : Nodes) → are_spaces (MoreNodes (make head body other) rest) ≡ true → ⊥
made-fills (IfHead c) body other rest h = absurd (cc)
made-fills _ body other rest h = absurd (cc)

module _ (limit : ℕ) where
  -- Behind the front the parts are read as ever

  behind-step : (parent : Option Name) (i : List Piece) (o : Option Parts) → ((p : Parts) → file_read_on limit (state parent false p) i ≡ option_map (tree_with parent) (parts_read_on limit p i))
      → option_and_then (λ g. file_read_on limit g i) (option_map (state parent false) o) ≡ option_map (tree_with parent) (option_and_then (λ t. parts_read_on limit t i) o)
  behind-step parent i None again = refl
  behind-step parent i (Some t) again = again t

  behind : (parent : Option Name) (i : List Piece) (p : Parts) → file_read_on limit (state parent false p) i ≡ option_map (tree_with parent) (parts_read_on limit p i)
  behind parent [] p = refl
  behind parent (x ∷ i) p = behind-step parent i (parts_step limit p x) (λ t. behind parent i t)

  mapped : (parent : Option Name) (o : Option All) (tree : Tree) → option_map (tree_with parent) o ≡ Some tree → (o ≡ Some (tree.nodes, tree.definitions)) × (parent ≡ tree.parent)
  mapped parent None tree h = absurd (cc)
  mapped parent (Some x) tree h = let e : tree_with parent x ≡ tree = cc in (ap (λ t. Some (t.nodes, t.definitions)) e, ap (λ t. t.parent) e)

  behind-got : (parent : Option Name) (i : List Piece) (p : Parts) (tree : Tree) → file_read_on limit (state parent false p) i ≡ Some tree → (parts_read_on limit p i ≡ Some (tree.nodes, tree.definitions)) × (parent ≡ tree.parent)
  behind-got parent i p tree h = mapped parent (parts_read_on limit p i) tree (sym (behind parent i p) ∙ h)

  -- What is read is spelled

  -- what is said of the pieces, where white space and comments alone were read, which are these nodes
  data Says : Nodes → List Piece → Option Name → All → Type 0 where
    alone : {found : Nodes} {i : List Piece} {x : All} → parts_read_on limit (top found) i ≡ Some x → Says found i None x
    below : {found front : Nodes} {i j : List Piece} {tokens : List Token} {name : Name} {x : All} → DerivesNodes outside front i (Block tokens ∷ j) → IsTrue (are_spaces front) → nodes_depth front ≤ limit → Extends name tokens
        → parts_read_on limit (top (join found front)) j ≡ Some x → Says found i (Some name) x

  -- a piece that is no node
  over : {parent : Option Name} {x : All} {found : Nodes} {i : List Piece} (p : Piece) → parts_read_on limit (top found) (p ∷ i) ≡ parts_read_on limit (top found) i
      → ((y : Nodes) (m : List Piece) → DerivesNodes outside y i m → DerivesNodes outside y (p ∷ i) m) → Says found i parent x → Says found (p ∷ i) parent x
  over p same build (alone h) = alone (same ∙ h)
  over p same build (below {front = front} {j = j} {tokens = tokens} d f le e h) = below (build front (Block tokens ∷ j) d) f le e h

  -- white space
  spaced : {parent : Option Name} {x : All} {found : Nodes} {i : List Piece} (b : ℕ) (bs : List ℕ) (position : Span) → is_space (b ∷ bs) ≡ true → 0 < limit → Says (join found (one (Content (b ∷ bs) position))) i parent x
      → Says found (Words (b ∷ bs) position ∷ i) parent x
  spaced {found = found} {i = i} b bs position f lt (alone h) =
      alone (ap (λ o. option_and_then (λ p. parts_read_on limit p i) (option_map (among [] None) o)) (put-read limit outside [] found (Content (b ∷ bs) position) lt) ∙ h)
  spaced {found = found} b bs position f lt (below {front = front} {j = j} {tokens = tokens} d s le e h) =
      let n = Content (b ∷ bs) position in
      below (content (λ q. cc) d) (ap₂ (λ x y. x && y) f s) (deepest limit 1 (nodes_depth front) (omega (arith, lt)) le) e
      (ap (λ n. parts_read_on limit (top n) j) (sym (join-join found (one n) front)) ∙ h)

  module _ (i : List Piece) (tree : Tree) where
    -- what holds of the pieces behind the first
    abbrev Again : Type 0
    Again = (found : Nodes) → file_read_on limit (state None true (top found)) i ≡ Some tree → Says found i tree.parent (tree.nodes, tree.definitions)

    -- any piece that is not in front of `extends`
    other-got : (p : Piece) (found : Nodes) → option_and_then (λ g. file_read_on limit g i) (option_map (state None false) (parts_step limit (top found) p)) ≡ Some tree
        → Says found (p ∷ i) tree.parent (tree.nodes, tree.definitions)
    other-got p found h =
        let o = parts_step limit (top found) p in
        let g = mapped None (option_and_then (λ t. parts_read_on limit t i) o) tree (sym (behind-step None i o (λ t. behind None i t)) ∙ h) in
        subst (λ parent. Says found (p ∷ i) parent (tree.nodes, tree.definitions)) g.1 (alone g.0)

    words-got : Again → (b : ℕ) (bs : List ℕ) (position : Span) (found : Nodes) (f : Bool) → is_space (b ∷ bs) ≡ f
        → option_and_then (λ g. file_read_on limit g i) (option_map (state None f) (parts_step limit (top found) (Words (b ∷ bs) position))) ≡ Some tree → Says found (Words (b ∷ bs) position ∷ i) tree.parent (tree.nodes, tree.definitions)
    words-got again b bs position found false f h = other-got (Words (b ∷ bs) position) found h
    words-got again b bs position found true f h =
        let n = Content (b ∷ bs) position in
        let g = if_then (nat_lt 0 limit) (λ o. option_and_then (λ g. file_read_on limit g i) (option_map (state None true) (option_map (among [] None) o))) (Some (at outside [] (join found (one n)))) tree refl h in
        spaced b bs position f (has-room 0 limit g.0) (again (join found (one n)) g.1)

    tag-got : Again → (tokens : List Token) (found : Nodes) (o : Option Name) → is_extends tokens ≡ true → quoted_name tokens ≡ o
        → option_and_then (λ g. file_read_on limit g i) (extending (state None true (top found)) o) ≡ Some tree → Says found (Block tokens ∷ i) tree.parent (tree.nodes, tree.definitions)
    tag-got again tokens found None e f h = absurd (cc)
    tag-got again tokens found (Some name) e f h =
        let g = behind-got (Some name) i (top found) tree h in
        subst (λ parent. Says found (Block tokens ∷ i) parent (tree.nodes, tree.definitions)) g.1
        (below empty refl (omega arith) (quotes-got (codes "extends") tokens name (begun_sound (codes "extends") tokens e) f)
        (ap (λ n. parts_read_on limit (top n) i) (join-none found) ∙ g.0))

    block-got : Again → (tokens : List Token) (found : Nodes) (b : Bool) → is_extends tokens ≡ b
        → option_and_then (λ g. file_read_on limit g i) (if b then extending (state None true (top found)) (quoted_name tokens) else kept limit (state None true (top found)) (Block tokens)) ≡ Some tree
        → Says found (Block tokens ∷ i) tree.parent (tree.nodes, tree.definitions)
    block-got again tokens found true e h = tag-got again tokens found (quoted_name tokens) e refl h
    block-got again tokens found false e h = other-got (Block tokens) found h

    piece-got : Again → (p : Piece) (found : Nodes) → file_read_on limit (state None true (top found)) (p ∷ i) ≡ Some tree → Says found (p ∷ i) tree.parent (tree.nodes, tree.definitions)
    piece-got again (Words [] position) found h = over (Words [] position) refl (λ y m d. blank d) (again found (ap (λ b. file_read_on limit (state None b (top found)) i) (sym no_words) ∙ h))
    piece-got again (Words (b ∷ bs) position) found h = words-got again b bs position found (is_space (b ∷ bs)) refl h
    piece-got again Comment found h = over Comment refl (λ y m d. comment d) (again found h)
    piece-got again (Variable tokens) found h = other-got (Variable tokens) found h
    piece-got again (Block tokens) found h = block-got again tokens found (is_extends tokens) refl h
    piece-got again Broken found h = absurd (cc)

  says : (i : List Piece) (found : Nodes) (tree : Tree) → file_read_on limit (state None true (top found)) i ≡ Some tree → Says found i tree.parent (tree.nodes, tree.definitions)
  says [] found tree h = let g = mapped None (Some (found, [])) tree h in subst (λ parent. Says found [] parent (tree.nodes, tree.definitions)) g.1 (alone g.0)
  says (p ∷ i) found tree h = piece-got i tree (λ found h. says i found tree h) p found h

  -- a text that these pieces spell, and how deep it is
  abbrev pub Spelled : List Piece → Option Name → All → Type 0
  Spelled i parent x = DerivesFile parent x.0 x.1 i × (max (nodes_depth x.0) (definitions_depth x.1) ≤ limit)

  derived : {i : List Piece} {parent : Option Name} {x : All} → Says NoNodes i parent x → Spelled i parent x
  derived {i = i} {x = x} (alone h) =
      let r = parts_sound limit i [] NoNodes x h in
      subst (Spelled i None) r.all (root r.derived, deepest limit (nodes_depth r.nodes) (definitions_depth r.definitions) r.flat r.flat_components)
  derived {i = i} {x = x} (below {front = front} {j = j} {name = name} d f le e h) =
      let r = parts_sound limit j [] front x h in
      subst (Spelled i (Some name)) r.all
      (child d f e r.derived, deepest limit (nodes_depth (join front r.nodes)) (definitions_depth r.definitions) (deep front r.nodes limit le r.flat) r.flat_components)

  pub spelled_sound : (i : List Piece) (tree : Tree) → spelled limit i ≡ Some tree → DerivesFile tree.parent tree.nodes tree.definitions i × (tree_depth tree ≤ limit)
  spelled_sound i tree h = derived (says i NoNodes tree h)

  once-got : (o : Option Tree) (tree : Tree) → option_and_then once o ≡ Some tree → (o ≡ Some tree) × IsOnce tree
  once-got None tree h = absurd (cc)
  once-got (Some t) tree h =
      let g = guard (has_each_block_once t.nodes && has_each_component_once t) (Some t) tree h in
      let e : t ≡ tree = let s = g.1 in cc in
      (g.1, subst IsOnce e (both (has_each_block_once t.nodes) (has_each_component_once t) g.0))

  pub file_sound : (i : List Piece) (tree : Tree) → file limit i ≡ Some tree → DerivesFile tree.parent tree.nodes tree.definitions i × (tree_depth tree ≤ limit) × IsOnce tree
  file_sound i tree h =
      let o = once-got (spelled limit i) tree h in
      let s = spelled_sound i tree o.0 in
      (s.0, s.1, o.1)

  -- What is spelled is read

  -- nothing of a text begins with the tag
  extends-unread : (found : Nodes) (tokens : List Token) → is_extends tokens ≡ true → parts_step limit (top found) (Block tokens) ≡ None
  unfolding statement
  extends-unread found tokens e =
      let s = at outside [] found in
      let b = begun_sound (codes "extends") tokens e in
      ap (λ (c : Bool). if c then option_map (component_begun (top found)) (signed limit (next (begin false tokens))) else plain_step limit (top found) (Block tokens)) (no-component tokens b)
      ∙ ap (λ o. option_map (among [] None) (option_and_then (taken limit s tokens) o)) (extends_read (room limit s) outside outside tokens b)

  any-read : (i : List Piece) (p : Piece) (found : Nodes) (x : All) → parts_read_on limit (top found) (p ∷ i) ≡ Some x
      → option_and_then (λ g. file_read_on limit g i) (option_map (state None false) (parts_step limit (top found) p)) ≡ Some (tree_with None x)
  any-read i p found x h = behind-step None i (parts_step limit (top found) p) (λ t. behind None i t) ∙ ap (option_map (tree_with None)) h

  root-block : (i : List Piece) (found : Nodes) (tokens : List Token) (x : All) (b : Bool) → is_extends tokens ≡ b → parts_read_on limit (top found) (Block tokens ∷ i) ≡ Some x
      → option_and_then (λ g. file_read_on limit g i) (if b then extending (state None true (top found)) (quoted_name tokens) else kept limit (state None true (top found)) (Block tokens)) ≡ Some (tree_with None x)
  root-block i found tokens x true e h =
      let n = ap (option_and_then (λ t. parts_read_on limit t i)) (extends-unread found tokens e) in
      let m : None ≡ Some x = sym n ∙ h in absurd (cc)
  root-block i found tokens x false e h = any-read i (Block tokens) found x h

  either-way : (i : List Piece) (b : Bool) (p : Parts) (x : All) → file_read_on limit (state None true p) i ≡ Some (tree_with None x) → parts_read_on limit p i ≡ Some x
      → file_read_on limit (state None b p) i ≡ Some (tree_with None x)
  either-way i true p x h r = h
  either-way i false p x h r = behind None i p ∙ ap (option_map (tree_with None)) r

  words-read : (i : List Piece) (b c : Bool) (s : Progress) (x : All) → (parts_read_on limit (among [] None s) i ≡ Some x → file_read_on limit (state None true (among [] None s)) i ≡ Some (tree_with None x))
      → option_and_then (λ p. parts_read_on limit p i) (option_map (among [] None) (if c then Some s else None)) ≡ Some x
      → option_and_then (λ g. file_read_on limit g i) (option_map (state None b) (option_map (among [] None) (if c then Some s else None))) ≡ Some (tree_with None x)
  words-read i b true s x again h = either-way i b (among [] None s) x (again h) h
  words-read i b false s x again h = absurd (cc)

  root-read : (i : List Piece) (found : Nodes) (x : All) → parts_read_on limit (top found) i ≡ Some x → file_read_on limit (state None true (top found)) i ≡ Some (tree_with None x)
  root-read [] found x h = ap (option_map (tree_with None)) h
  root-read (Words [] position ∷ i) found x h = either-way i (is_space []) (top found) x (root-read i found x h) h
  root-read (Words (b ∷ bs) position ∷ i) found x h =
      let more = at outside [] (join found (one (Content (b ∷ bs) position))) in
      words-read i (is_space (b ∷ bs)) (has_room limit (at outside [] found)) more x (root-read i (join found (one (Content (b ∷ bs) position))) x) h
  root-read (Comment ∷ i) found x h = root-read i found x h
  root-read (Variable tokens ∷ i) found x h = any-read i (Variable tokens) found x h
  root-read (Block tokens ∷ i) found x h = root-block i found tokens x (is_extends tokens) refl h
  root-read (Broken ∷ i) found x h = absurd (cc)

  front-read : {front : Nodes} {i j : List Piece} → DerivesNodes outside front i j → IsTrue (are_spaces front) → 0 < limit → (found : Nodes)
      → file_read_on limit (state None true (top found)) i ≡ file_read_on limit (state None true (top (join found front))) j
  front-read {j = j} empty s lt found = ap (λ n. file_read_on limit (state None true (top n)) j) (sym (join-none found))
  front-read (content {words = []} filled d) s lt found = absurd (filled refl)
  front-read {j = j} (content {words = b ∷ bs} {position = position} {rest = rest} {i = i} filled d) s lt found =
      let n = Content (b ∷ bs) position in
      let f = both (is_space (b ∷ bs)) (are_spaces rest) s in
      ap (λ o. option_and_then (λ g. file_read_on limit g i) (option_map (state None (is_space (b ∷ bs))) (option_map (among [] None) o))) (put-read limit outside [] found n lt)
      ∙ ap (λ b. file_read_on limit (state None b (top (join found (one n)))) i) f.0
      ∙ front-read d f.1 lt (join found (one n))
      ∙ ap (λ n. file_read_on limit (state None true (top n)) j) (join-join found (one n) rest)
  front-read (blank {i = i} d) s lt found = ap (λ b. file_read_on limit (state None b (top found)) i) no_words ∙ front-read d s lt found
  front-read (comment d) s lt found = front-read d s lt found
  front-read (print v d) s lt found = absurd (cc)
  front-read (single {rest = rest} a d) s lt found = absurd (simple-fills a rest s)
  front-read (bodied {head = h} {body = body} {other = other} {rest = rest} a b o d) s lt found = absurd (made-fills h body other rest s)

  tag-read : (j : List Piece) (tokens : List Token) (name : Name) (x : All) (p : Parts) → Extends name tokens → parts_read_on limit p j ≡ Some x
      → file_read_on limit (state None true p) (Block tokens ∷ j) ≡ Some (tree_with (Some name) x)
  tag-read j tokens name x p e h =
      let f = state None true p in
      ap (λ (b : Bool). option_and_then (λ g. file_read_on limit g j) (if b then extending f (quoted_name tokens) else kept limit f (Block tokens))) (begun_complete (codes "extends") tokens e.0)
      ∙ ap (λ o. option_and_then (λ g. file_read_on limit g j) (extending f o)) (quotes-is (codes "extends") tokens name e)
      ∙ behind (Some name) j p
      ∙ ap (option_map (tree_with (Some name))) h

  pub spelled_complete : {parent : Option Name} {x : Nodes} {ds : Definitions} {i : List Piece} → DerivesFile parent x ds i → 0 < limit → max (nodes_depth x) (definitions_depth ds) ≤ limit
      → spelled limit i ≡ Some (record { parent = parent; nodes = x; definitions = ds })
  spelled_complete {x = x} {ds = ds} {i = i} (root d) lt le =
      let fits = both-fit (nodes_depth x) (definitions_depth ds) limit le in
      root-read i NoNodes (x, ds) (parts_complete d limit fits.0 fits.1 [] NoNodes)
  spelled_complete {ds = ds} {i = i} (child {name = name} {tokens = tokens} {front = front} {nodes = x} {j = j} d s e r) lt le =
      let fits = both-fit (nodes_depth (join front x)) (definitions_depth ds) limit le in
      let parts = both-fit (nodes_depth front) (nodes_depth x) limit (subst (λ n. n ≤ limit) (join-deep front x) fits.0) in
      front-read d s lt NoNodes ∙ tag-read j tokens name (join front x, ds) (top front) e (parts_complete r limit parts.1 fits.1 [] front)

  pub file_complete : {i : List Piece} (tree : Tree) → DerivesFile tree.parent tree.nodes tree.definitions i → 0 < limit → tree_depth tree ≤ limit → IsOnce tree → file limit i ≡ Some tree
  file_complete tree d lt le o = ap (option_and_then once) (spelled_complete d lt le) ∙ ap₂ (λ (a b : Bool). if a && b then Some tree else None) o.0 o.1

-- where no piece begins, nothing is read
pub file_broken : (limit : ℕ) (f : File) → file_read_on limit f (Broken ∷ []) ≡ None
file_broken limit f = by f.is_front
  where
    by : (b : Bool) → option_and_then (λ g. file_read_on limit g []) (if b && false then extending f None else kept limit f Broken) ≡ None
    by true = refl
    by false = refl

pub file_placed : {parent : Option Name} {x : Nodes} {ds : Definitions} {i : List Piece} → DerivesFile parent x ds i → IsTrue (in_place false x && definitions_in_place ds)
file_placed (root d) = parts_placed d
file_placed (child {front = front} {nodes = x} {definitions = ds} d s e r) =
    let p = both (in_place false x) (definitions_in_place ds) (parts_placed r) in
    and-true (in_place false (join front x)) (definitions_in_place ds) (joined_placed front x (derived_placed d) p.0) p.1

pub file_outside : {parent : Option Name} {x : Nodes} {ds : Definitions} {i : List Piece} → DerivesFile parent x ds i → IsTrue (have_no_blocks ds)
file_outside (root d) = parts_outside d
file_outside (child d s e r) = parts_outside r
