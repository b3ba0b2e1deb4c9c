-- Nodes and components: what is read is derived, and the other way round.
use Rattle.std.proofs.Common.{◌≡◌, ℕ, ◌≤◌, List, [], ◌∷◌, ◌++◌, Bool, true, false, Option, Some, None, IsTrue, if◌then◌else◌, codes, refl, ap, ap₂, sym, ◌∙◌, subst, arith}
use Rattle.std.proofs.lemmas.List.{append_assoc, append-nil}
use Rattle.std.specs.Prelude.{option_map, option_and_then}
use Rattle.tera_syntax_tree.specs.Tree.{Signature, Nodes, NoNodes, Definitions}
use Rattle.tera_syntax_tree.specs.Depth.{nodes_depth, parameters_depth, definition_depth, definitions_depth}
use Rattle.tera_syntax_tokens.specs.Token.{Token}
use Rattle.tera_syntax_tokens.specs.Input.{begin, next}
use Rattle.tera_syntax_tokens.specs.Cut.{Piece, Words, Comment, Variable, Block, Broken}
use Rattle.tera_syntax.specs.declared.heads.Surroundings.{Surroundings}
use Rattle.tera_syntax.specs.Heads.{outside, in_component, is_component, ends_component}
use Rattle.tera_syntax.specs.Grammar.{Defines, join, DerivesNodes, DerivesParts, last, component}
use Rattle.tera_syntax.specs.Reader.{OpenStatement, Progress, room, signed, taken, statement, step}
use Rattle.tera_syntax.specs.Parts.{OpenComponent, component_begun, component_ended, plain_step, top_tag, parts_read_on}
use Rattle.tera_syntax.proofs.Rows.{both-fit, join-join, deep, deepest, join-deep}
use Rattle.tera_syntax.proofs.Whole.{begun_sound, defines_complete}
use Rattle.tera_syntax.proofs.OneTag.{component_unread, component_end_read}
use Rattle.tera_syntax.proofs.Complete.{at, reads}
use Rattle.tera_syntax.proofs.Sound.{among, opening, Goes, done, begins, finishes, fused, goes}

-- What is read is derived

-- the pieces are these nodes and components, behind those that were read before
pub record Derived (limit : ℕ) (ds : Definitions) (found : Nodes) (i : List Piece) (x : Nodes × Definitions) : Type 0 where
  pub nodes : Nodes
  pub definitions : Definitions
  pub derived : DerivesParts nodes definitions i
  pub flat : nodes_depth nodes ≤ limit
  pub flat_components : definitions_depth definitions ≤ limit
  pub all : (join found nodes, ds ++ definitions) ≡ x

mutual
  derived : {limit : ℕ} {ds : Definitions} {found : Nodes} {i : List Piece} {x : Nodes × Definitions} → Goes limit ds None outside [] found i x → Derived limit ds found i x
  derived {ds = ds} {found = found} (done {y = y} d small e) = record { nodes = y; definitions = []; derived = last d; flat = small; flat_components = omega arith; all = ap (λ es. (join found y, es)) (append-nil ds) ∙ e }
  derived (begins d small e s p g) = derived_in d small e s p g

  derived_in : {limit : ℕ} {ds : Definitions} {found y before : Nodes} {s : Signature} {tokens : List Token} {x : Nodes × Definitions} {i m : List Piece} → DerivesNodes outside y i (Block tokens ∷ m) → nodes_depth y ≤ limit
      → join found y ≡ before → Defines s tokens → parameters_depth s.parameters ≤ limit → Goes limit ds (Some (opening before s)) in_component [] NoNodes m x → Derived limit ds found i x
  derived_in {limit = limit} {ds = ds} {found = found} {y = y} {before = before} {s = s} {m = m} d small e a p (finishes {y = z} {body = body} {tokens = end} {m = j} b less f w g) =
      let r = derived g in
      let n : nodes_depth body ≤ limit = subst (λ n. nodes_depth n ≤ limit) f less in
      record {
        nodes = join y r.nodes;
        definitions = (s, body) ∷ r.definitions;
        derived = component d a (subst (λ n. DerivesNodes in_component n m (Block end ∷ j)) f b) w r.derived;
        flat = deep y r.nodes limit small r.flat;
        flat_components = deepest limit (definition_depth (s, body)) (definitions_depth r.definitions) (deepest limit (parameters_depth s.parameters) (nodes_depth body) p n) r.flat_components;
        all = ap₂ (λ n es. (n, es)) (sym (join-join found y r.nodes) ∙ ap (λ n. join n r.nodes) e) (sym (append_assoc ds ((s, body) ∷ []) r.definitions)) ∙ r.all;
      }

pub parts_sound : (limit : ℕ) (i : List Piece) (ds : Definitions) (found : Nodes) (x : Nodes × Definitions) → parts_read_on limit (among ds None (at outside [] found)) i ≡ Some x → Derived limit ds found i x
parts_sound limit i ds found x h = derived (goes limit i ds None outside [] found x h)

-- What is derived is read

module _ (limit : ℕ) (ds : Definitions) where
  module _ (c : Option OpenComponent) where
    abbrev read : Progress → List Piece → Option (Nodes × Definitions)
    read s i = parts_read_on limit (among ds c s) i

    moves-in : (q : Surroundings) (f : OpenStatement) (fs : List OpenStatement) (found : Nodes) (p : Piece) (i : List Piece) → read (at q (f ∷ fs) found) (p ∷ i) ≡ option_and_then (λ t. read t i) (step limit (at q (f ∷ fs) found) p)
    moves-in q f fs found (Words words position) i = fused (λ p. parts_read_on limit p i) (among ds c) (step limit (at q (f ∷ fs) found) (Words words position))
    moves-in q f fs found Comment i = refl
    moves-in q f fs found (Variable tokens) i = fused (λ p. parts_read_on limit p i) (among ds c) (step limit (at q (f ∷ fs) found) (Variable tokens))
    moves-in q f fs found (Block tokens) i = fused (λ p. parts_read_on limit p i) (among ds c) (step limit (at q (f ∷ fs) found) (Block tokens))
    moves-in q f fs found Broken i = refl

    -- a step that is taken is no component's
    plain : (s t : Progress) (p : Piece) (i : List Piece) → step limit s p ≡ Some t → option_and_then (λ p. parts_read_on limit p i) (plain_step limit (among ds c s) p) ≡ read t i
    plain s t p i e = ap (λ o. option_and_then (λ p. parts_read_on limit p i) (option_map (among ds c) o)) e

  component-unread : (q : Surroundings) (found : Nodes) (tokens : List Token) → is_component tokens ≡ true → statement limit (at q [] found) tokens ≡ None
  unfolding statement
  component-unread q found tokens e = let s = at q [] found in
      ap (option_and_then (taken limit s tokens)) (component_unread (room limit s) q outside tokens (begun_sound (codes "component") tokens e))

  end-unread : (q : Surroundings) (found : Nodes) (name : _) (tokens : List Token) → ends_component name tokens ≡ true → statement limit (at q [] found) tokens ≡ None
  unfolding statement
  end-unread q found name tokens e = let s = at q [] found in
      ap (option_and_then (taken limit s tokens)) (component_end_read (room limit s) q outside tokens name e)

  top-moves : (c : Option OpenComponent) (q : Surroundings) (found : Nodes) (t : Progress) (tokens : List Token) (i : List Piece) → statement limit (at q [] found) tokens ≡ Some t
      → option_and_then (λ p. parts_read_on limit p i) (top_tag limit (among ds c (at q [] found)) c tokens) ≡ read c t i
  top-moves None q found t tokens i e = by (is_component tokens) refl
    where
      by : (b : Bool) → is_component tokens ≡ b
          → option_and_then (λ p. parts_read_on limit p i)
          (if b then option_map (component_begun (among ds None (at q [] found))) (signed limit (next (begin false tokens))) else plain_step limit (among ds None (at q [] found)) (Block tokens)) ≡ read None t i
      by true f = let n : None ≡ Some t = sym (component-unread q found tokens f) ∙ e in absurd (cc)
      by false f = plain None (at q [] found) t (Block tokens) i e
  top-moves (Some c) q found t tokens i e = by (ends_component c.signature.name tokens) refl
    where
      by : (b : Bool) → ends_component c.signature.name tokens ≡ b
          → option_and_then (λ p. parts_read_on limit p i)
          (if b then Some (component_ended (among ds (Some c) (at q [] found)) c) else plain_step limit (among ds (Some c) (at q [] found)) (Block tokens)) ≡ read (Some c) t i
      by true f = let n : None ≡ Some t = sym (end-unread q found c.signature.name tokens f) ∙ e in absurd (cc)
      by false f = plain (Some c) (at q [] found) t (Block tokens) i e

  tag-moves : (c : Option OpenComponent) (q : Surroundings) (fs : List OpenStatement) (found : Nodes) (t : Progress) (tokens : List Token) (i : List Piece) → statement limit (at q fs found) tokens ≡ Some t → read c (at q fs found) (Block tokens ∷ i) ≡ read c t i
  tag-moves c q [] found t tokens i e = top-moves c q found t tokens i e
  tag-moves c q (f ∷ fs) found t tokens i e = plain c (at q (f ∷ fs) found) t (Block tokens) i e

  moves : (c : Option OpenComponent) (s t : Progress) (p : Piece) (i : List Piece) → step limit s p ≡ Some t → read c s (p ∷ i) ≡ read c t i
  moves c s t (Words words position) i e = plain c s t (Words words position) i e
  moves c s t Comment i e = plain c s t Comment i e
  moves c s t (Variable tokens) i e = plain c s t (Variable tokens) i e
  moves c s t (Block tokens) i e = tag-moves c s.surroundings s.statements s.found t tokens i e
  moves c s t Broken i e = absurd (cc)

  nodes-read : (c : Option OpenComponent) {q : Surroundings} {x : Nodes} {i j : List Piece} → DerivesNodes q x i j → (found : Nodes) → nodes_depth x ≤ limit → read c (at q [] found) i ≡ read c (at q [] (join found x)) j
  nodes-read c d found le = reads limit (read c) (moves c) (moves-in c) d [] found (omega arith)

  component-begins : {s : Signature} {tokens : List Token} → Defines s tokens → (found : Nodes) (i : List Piece) → parameters_depth s.parameters ≤ limit
      → read None (at outside [] found) (Block tokens ∷ i) ≡ read (Some (opening found s)) (at in_component [] NoNodes) i
  component-begins {s = s} {tokens = tokens} a found i le =
      let p = defines_complete a limit le in
      let begun = component_begun (among ds None (at outside [] found)) in
      let other = plain_step limit (among ds None (at outside [] found)) (Block tokens) in
      ap (λ (b : Bool). option_and_then (λ p. parts_read_on limit p i) (if b then option_map begun (signed limit (next (begin false tokens))) else other)) p.0
      ∙ ap (λ o. option_and_then (λ p. parts_read_on limit p i) (option_map begun o)) p.1

component-finishes : (limit : ℕ) (ds : Definitions) (before body : Nodes) (s : Signature) (tokens : List Token) (i : List Piece) → IsTrue (ends_component s.name tokens)
    → parts_read_on limit (among ds (Some (opening before s)) (at in_component [] body)) (Block tokens ∷ i) ≡ parts_read_on limit (among (ds ++ (s, body) ∷ []) None (at outside [] before)) i
component-finishes limit ds before body s tokens i e =
    let here = among ds (Some (opening before s)) (at in_component [] body) in
    ap (λ (b : Bool). option_and_then (λ p. parts_read_on limit p i) (if b then Some (component_ended here (opening before s)) else plain_step limit here (Block tokens))) e

pub parts_complete : {y : Nodes} {es : Definitions} {i : List Piece} → DerivesParts y es i → (limit : ℕ) → nodes_depth y ≤ limit → definitions_depth es ≤ limit → (ds : Definitions) (found : Nodes)
    → parts_read_on limit (among ds None (at outside [] found)) i ≡ Some (join found y, ds ++ es)
parts_complete {y = y} (last d) limit le less ds found = nodes-read limit ds None d found le ∙ ap (λ es. Some (join found y, es)) (sym (append-nil ds))
parts_complete (component {before = before} {body = body} {nodes = y} {s = s} {definitions = es} {tokens = tokens} {end = end} {i = i} {m = m} {j = j} d a b w r) limit le less ds found =
    let all = both-fit (definition_depth (s, body)) (definitions_depth es) limit less in
    let one = both-fit (parameters_depth s.parameters) (nodes_depth body) limit all.0 in
    let n = both-fit (nodes_depth before) (nodes_depth y) limit (subst (λ n. n ≤ limit) (join-deep before y) le) in
    nodes-read limit ds None d found n.0
    ∙ component-begins limit ds a (join found before) m one.0
    ∙ nodes-read limit ds (Some (opening (join found before) s)) b NoNodes one.1
    ∙ component-finishes limit ds (join found before) body s end j w
    ∙ parts_complete r limit n.1 all.1 (ds ++ (s, body) ∷ []) (join found before)
    ∙ ap₂ (λ n es. Some (n, es)) (join-join found before y) (append_assoc ds ((s, body) ∷ []) es)
