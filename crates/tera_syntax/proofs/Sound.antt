-- What is read is derived.
use Rattle.std.proofs.Common.{◌≡◌, ℕ, suc, ◌-◌, ◌≤◌, ◌<◌, max, nat_lt, List, [], ◌∷◌, Bool, true, false, Option, Some, None, IsTrue, if◌then◌else◌, refl, sym, ◌∙◌, subst, arith, length, ◌++◌, ap}
use Rattle.std.proofs.lemmas.Grind.{common_steps}
use Rattle.std.specs.Prelude.{option_map, option_and_then, codes}
use Rattle.tera_syntax_tokens.specs.declared.token.Kind.TheVariants as k
use Rattle.tera_syntax_tokens.specs.Token.{Token}
use Rattle.tera_syntax_tokens.specs.Input.{begin, next}
use Rattle.tera_syntax_tokens.specs.Cut.{Piece, Words, Comment, Variable, Block, Broken}
use Rattle.tera_syntax_tree.specs.Tree.{Expr, Signature, Content, Print, Node, Nodes, NoNodes, Definitions}
use Rattle.tera_syntax_tree.specs.Depth.{parameters_depth, node_depth, nodes_depth}
use Rattle.tera_syntax.specs.declared.heads.Surroundings.{Surroundings}
use Rattle.tera_syntax.specs.Heads.{Head, BlockHead, outside, in_component, is_component, ends_component, make, head_depth, splits, chains, inside, ends}
use Rattle.tera_syntax.specs.Grammar.{IsWord, Opens, GoesOn, Defines, join, DerivesNodes, empty, content, blank, comment, print, single, bodied, DerivesRest, ended, split, chained}
use Rattle.tera_syntax.specs.Reader.{OpenStatement, Progress, Tag, Single, Opening, GoingOn, Dividing, Closing, one, printed, put, room, made, row, opened, divided, divided_by, closed, shut, around, tag, taken, statement, whole, signed}
use Rattle.tera_syntax.specs.Parts.{OpenComponent, Parts, component_begun, component_ended, plain_step, parts_read_on}
use Rattle.tera_syntax.proofs.Rows.{join-none, join-join, deep}
use Rattle.tera_syntax.proofs.Whole.{whole_sound, defines_sound}
use Rattle.tera_syntax.proofs.OneTag.{Meant, tag_sound}
use Rattle.tera_syntax.proofs.Complete.{at, asking, halved}

-- what was read of components, beside the nodes that are read
abbrev pub among : Definitions → Option OpenComponent → Progress → Parts
among ds c s = record { definitions = ds; component = c; progress = s }

abbrev pub opening : Nodes → Signature → OpenComponent
opening before s = record { before = before; signature = s }

-- the nodes and the components of a text
abbrev All : Type 0
All = Nodes × Definitions

mutual
  -- From what is open and was read, the pieces lead to all of the text: so much more of the innermost body, then what ends it.
  pub data Goes : ℕ → Definitions → Option OpenComponent → Surroundings → List OpenStatement → Nodes → List Piece → All → Type 0 where
    done : {limit : ℕ} {ds : Definitions} {q : Surroundings} {found y : Nodes} {x : All} {i : List Piece} → DerivesNodes q y i [] → nodes_depth y ≤ limit → (join found y, ds) ≡ x → Goes limit ds None q [] found i x
    begins : {limit : ℕ} {ds : Definitions} {q : Surroundings} {found y before : Nodes} {s : Signature} {tokens : List Token} {x : All} {i m : List Piece} → DerivesNodes q y i (Block tokens ∷ m) → nodes_depth y ≤ limit
        → join found y ≡ before → Defines s tokens → parameters_depth s.parameters ≤ limit → Goes limit ds (Some (opening before s)) in_component [] NoNodes m x → Goes limit ds None q [] found i x
    finishes : {limit : ℕ} {ds : Definitions} {c : OpenComponent} {q : Surroundings} {found y body : Nodes} {tokens : List Token} {x : All} {i m : List Piece} → DerivesNodes q y i (Block tokens ∷ m) → nodes_depth y ≤ limit
        → join found y ≡ body → IsTrue (ends_component c.signature.name tokens) → Goes limit (ds ++ (c.signature, body) ∷ []) None outside [] c.before m x → Goes limit ds (Some c) q [] found i x
    in_body : {limit : ℕ} {ds : Definitions} {c : Option OpenComponent} {q : Surroundings} {f : OpenStatement} {fs : List OpenStatement} {found y o : Nodes} {x : All} {i m l : List Piece} → f.body ≡ None → DerivesNodes q y i m → nodes_depth y ≤ limit - suc (length fs)
        → DerivesRest f.surroundings f.head o m l → nodes_depth o ≤ limit - suc (length fs) → Closes limit ds c f.is_chained f.surroundings fs (join f.before (one (make f.head (join found y) o))) l x
        → Goes limit ds c q (f ∷ fs) found i x
    in_other : {limit : ℕ} {ds : Definitions} {c : Option OpenComponent} {q : Surroundings} {f : OpenStatement} {fs : List OpenStatement} {found body y : Nodes} {x : All} {tokens : List Token} {i l : List Piece} → f.body ≡ Some body → DerivesNodes q y i (Block tokens ∷ l)
        → nodes_depth y ≤ limit - suc (length fs) → IsTrue (ends f.head tokens) → Closes limit ds c f.is_chained f.surroundings fs (join f.before (one (make f.head body (join found y)))) l x
        → Goes limit ds c q (f ∷ fs) found i x

  -- The same behind a statement that was ended; the first flag says whether that ends the statement around it too.
  pub data Closes : ℕ → Definitions → Option OpenComponent → Bool → Surroundings → List OpenStatement → Nodes → List Piece → All → Type 0 where
    here : {limit : ℕ} {ds : Definitions} {c : Option OpenComponent} {q : Surroundings} {fs : List OpenStatement} {found : Nodes} {x : All} {i : List Piece} → Goes limit ds c q fs found i x → Closes limit ds c false q fs found i x
    around_it : {limit : ℕ} {ds : Definitions} {c : Option OpenComponent} {q : Surroundings} {f : OpenStatement} {fs : List OpenStatement} {found : Nodes} {x : All} {i : List Piece} → Closes limit ds c f.is_chained f.surroundings fs (row f found) i x → Closes limit ds c true q (f ∷ fs) found i x

-- what stands in front is read first
in_front : (limit : ℕ) (ds : Definitions) (c : Option OpenComponent) (q : Surroundings) (fs : List OpenStatement) (found a : Nodes) (i j : List Piece) (x : All) → ((y : Nodes) (m : List Piece) → DerivesNodes q y j m → DerivesNodes q (join a y) i m)
    → nodes_depth a ≤ limit - length fs → Goes limit ds c q fs (join found a) j x → Goes limit ds c q fs found i x
in_front limit ds c q fs found a i j x build le (done {y = y} d small e) = done (build y [] d) (deep a y limit (omega arith) small) (ap (λ n. (n, ds)) (sym (join-join found a y)) ∙ e)
in_front limit ds c q fs found a i j x build le (begins {y = y} {tokens = tokens} {m = m} d small e s p g) =
    begins (build y (Block tokens ∷ m) d) (deep a y limit (omega arith) small) (sym (join-join found a y) ∙ e) s p g
in_front limit ds c q fs found a i j x build le (finishes {y = y} {tokens = tokens} {m = m} d small e w g) =
    finishes (build y (Block tokens ∷ m) d) (deep a y limit (omega arith) small) (sym (join-join found a y) ∙ e) w g
in_front limit ds c q fs found a i j x build le (in_body {f = f} {fs = gs} {y = y} {o = o} {m = m} {l = l} n d small w less r) =
    in_body n (build y m d) (deep a y (limit - suc (length gs)) le small) w less
    (subst (λ r. Closes limit ds c f.is_chained f.surroundings gs (join f.before (one (make f.head r o))) l x) (join-join found a y) r)
in_front limit ds c q fs found a i j x build le (in_other {f = f} {fs = gs} {body = body} {y = y} {tokens = tokens} {l = l} n d small w r) =
    in_other n (build y (Block tokens ∷ l) d) (deep a y (limit - suc (length gs)) le small) w
    (subst (λ r. Closes limit ds c f.is_chained f.surroundings gs (join f.before (one (make f.head body r))) l x) (join-join found a y) r)

one-small : (n limit h : ℕ) → h < limit → n ≤ suc (limit - suc h) → max n 0 ≤ limit - h
one-small n limit h lt le = omega arith

-- how deep a statement is, by its parts
made-small : (h : Head) (b o : Nodes) (m : ℕ) → head_depth h ≤ m → nodes_depth b ≤ m → nodes_depth o ≤ m → node_depth (make h b o) ≤ suc m
made-small (BlockHead n s) b o m p q r = omega (arith, q)
made-small _ b o m p q r = omega (arith, p, q, r)

-- what a step that was taken says
pub if_then : {A B : Type 0} (b : Bool) (f : Option A → Option B) (o : Option A) (y : B) → f None ≡ None → f (if b then o else None) ≡ Some y → (b ≡ true) × (f o ≡ Some y)
if_then true f o y n h = (refl, h)
if_then false f o y n h = let e : None ≡ Some y = sym n ∙ h in absurd (cc)

and_then-both : {A B C : Type 0} (f : B → Option C) (g : A → Option B) (o : Option A) (y : C) → option_and_then f (option_and_then g o) ≡ Some y
    → (x : A) × (o ≡ Some x) × (option_and_then f (g x) ≡ Some y)
and_then-both f g None y h = absurd (cc)
and_then-both f g (Some x) y h = (x, refl, h)

pub has-room : (a b : ℕ) → nat_lt a b ≡ true → a < b
has-room a b h = grind (arith, common_steps)

printed-then : (limit : ℕ) (s : Progress) (f : Progress → Option All) (o : Option Expr) (x : All) → option_and_then f (printed limit s o) ≡ Some x
    → (v : Expr) × (o ≡ Some v) × (option_and_then f (put limit s (Print v)) ≡ Some x)
printed-then limit s f None x h = absurd (cc)
printed-then limit s f (Some v) x h = (v, refl, h)

-- a statement whose body was read
abbrev half : OpenStatement → Nodes → OpenStatement
half f body = halved f.before f.head f.is_chained f.surroundings body

module _ (limit : ℕ) (ds : Definitions) (i : List Piece) (x : All) (tokens : List Token) where
  open-got : (c : Option OpenComponent) (q : Surroundings) (fs : List OpenStatement) (found : Nodes) (h : Head) → Opens q h tokens → length fs < limit → head_depth h ≤ limit - suc (length fs)
      → Goes limit ds c (inside h q) (asking found h false q ∷ fs) NoNodes i x → Goes limit ds c q fs found (Block tokens ∷ i) x
  open-got c q fs found h a lt le (in_body {y = y} {o = o} {l = l} n d small w less (here g)) =
      in_front limit ds c q fs found (one (make h y o)) (Block tokens ∷ i) l x (λ z m r. bodied a d w r)
      (one-small (node_depth (make h y o)) limit (length fs) lt (made-small h y o (limit - suc (length fs)) le small less)) g
  open-got c q fs found h a lt le (in_other n d small w r) = absurd (cc)

  goes-on-got : (c : Option OpenComponent) (q : Surroundings) (f : OpenStatement) (fs : List OpenStatement) (found : Nodes) (h : Head) → f.body ≡ None → IsTrue (chains f.head) → GoesOn f.surroundings h tokens → suc (length fs) < limit
      → head_depth h ≤ limit - suc (suc (length fs)) → Goes limit ds c (inside h f.surroundings) (asking NoNodes h true f.surroundings ∷ half f found ∷ fs) NoNodes i x → Goes limit ds c q (f ∷ fs) found (Block tokens ∷ i) x
  goes-on-got c q f fs found h e s a lt le (in_body {y = y} {o = o} {l = l} n d small w less (around_it g)) =
      in_body e empty (omega arith) (chained s a d w) (one-small (node_depth (make h y o)) limit (suc (length fs)) lt (made-small h y o (limit - suc (suc (length fs))) le small less))
      (subst (λ r. Closes limit ds c f.is_chained f.surroundings fs (join f.before (one (make f.head r (one (make h y o))))) l x) (sym (join-none found)) g)
  goes-on-got c q f fs found h e s a lt le (in_other n d small w r) = absurd (cc)

  else-got : (c : Option OpenComponent) (q : Surroundings) (f : OpenStatement) (fs : List OpenStatement) (found : Nodes) → f.body ≡ None → IsTrue (splits f.head) → IsWord k.Else (codes "else") tokens
      → Goes limit ds c f.surroundings (half f found ∷ fs) NoNodes i x → Goes limit ds c q (f ∷ fs) found (Block tokens ∷ i) x
  else-got c q f fs found e s a (in_body n d small w less r) = absurd (cc)
  else-got c q f fs found e s a (in_other {body = body} {y = y} {l = l} n d small w g) =
      let p : body ≡ join found NoNodes = sym (join-none found ∙ (let q : found ≡ body = cc in q)) in
      in_body e empty (omega arith) (split s a d w) small (subst (λ r. Closes limit ds c f.is_chained f.surroundings fs (join f.before (one (make f.head r y))) l x) p g)

module _ (limit : ℕ) (ds : Definitions) (c : Option OpenComponent) (i : List Piece) (x : All) where
  -- all of the text, from here on
  abbrev rest : Progress → Option All
  rest t = parts_read_on limit (among ds c t) i

  -- what holds of the pieces behind the tag
  abbrev Again : Type 0
  Again = (q : Surroundings) (fs : List OpenStatement) (found : Nodes) → rest (at q fs found) ≡ Some x → Goes limit ds c q fs found i x

  -- one node more
  one-got : (q : Surroundings) (fs : List OpenStatement) (found : Nodes) (n : Node) (p : Piece) → ((y : Nodes) (m : List Piece) → DerivesNodes q y i m → DerivesNodes q (join (one n) y) (p ∷ i) m)
      → node_depth n ≤ suc (limit - suc (length fs)) → Again → option_and_then rest (put limit (at q fs found) n) ≡ Some x → Goes limit ds c q fs found (p ∷ i) x
  one-got q fs found n p build le again h =
      let g = if_then (nat_lt (length fs) limit) (option_and_then rest) (Some (at q fs (join found (one n)))) x refl h in
      in_front limit ds c q fs found (one n) (p ∷ i) i x build (one-small (node_depth n) limit (length fs) (has-room (length fs) limit g.0) le) (again q fs (join found (one n)) g.1)

  module _ (tokens : List Token) where
    end-got : (q : Surroundings) (f : OpenStatement) (fs : List OpenStatement) (found : Nodes) (b : Option Nodes) → f.body ≡ b → IsTrue (ends f.head tokens)
        → Closes limit ds c f.is_chained f.surroundings fs (join f.before (one (made f.head b found))) i x → Goes limit ds c q (f ∷ fs) found (Block tokens ∷ i) x
    end-got q f fs found None e w g =
        in_body e empty (omega arith) (ended w) (omega arith) (subst (λ r. Closes limit ds c f.is_chained f.surroundings fs (join f.before (one (make f.head r NoNodes))) i x) (sym (join-none found)) g)
    end-got q f fs found (Some body) e w g =
        in_other e empty (omega arith) w (subst (λ r. Closes limit ds c f.is_chained f.surroundings fs (join f.before (one (make f.head body r))) i x) (sym (join-none found)) g)

    closes : Again → (fs : List OpenStatement) (b : Bool) (q : Surroundings) (found : Nodes) → option_and_then rest (if b then closed fs found else Some (at q fs found)) ≡ Some x
        → Closes limit ds c b q fs found i x
    closes again fs false q found h = here (again q fs found h)
    closes again [] true q found h = absurd (cc)
    closes again (f ∷ fs) true q found h = around_it (closes again fs f.is_chained f.surroundings (row f found) h)

    opened-by : Again → (q : Surroundings) (fs : List OpenStatement) (found : Nodes) (h : Head) → Opens q h tokens → head_depth h ≤ limit - suc (length fs)
        → option_and_then rest (opened limit false (at q fs found) h) ≡ Some x → Goes limit ds c q fs found (Block tokens ∷ i) x
    opened-by again q fs found h a le e =
        let g = if_then (nat_lt (length fs) limit) (option_and_then rest) (Some (at (inside h q) (asking found h false q ∷ fs) NoNodes)) x refl e in
        open-got limit ds i x tokens c q fs found h a (has-room (length fs) limit g.0) le (again (inside h q) (asking found h false q ∷ fs) NoNodes g.1)

    goes-on-divided : Again → (q : Surroundings) (f : OpenStatement) (fs : List OpenStatement) (found : Nodes) (h : Head) → IsTrue (chains f.head) → GoesOn f.surroundings h tokens → head_depth h ≤ limit - suc (suc (length fs))
        → (b : Option Nodes) → f.body ≡ b → option_and_then rest (option_and_then (λ t. opened limit true t h) (divided_by f b fs found)) ≡ Some x → Goes limit ds c q (f ∷ fs) found (Block tokens ∷ i) x
    goes-on-divided again q f fs found h s a le (Some body) n e = absurd (cc)
    goes-on-divided again q f fs found h s a le None n e =
        let to = half f found ∷ fs in
        let g = if_then (nat_lt (length to) limit) (option_and_then rest) (Some (at (inside h f.surroundings) (asking NoNodes h true f.surroundings ∷ to) NoNodes)) x refl e in
        goes-on-got limit ds i x tokens c q f fs found h n s a (has-room (suc (length fs)) limit g.0) le (again (inside h f.surroundings) (asking NoNodes h true f.surroundings ∷ to) NoNodes g.1)

    goes-on-by : Again → (q : Surroundings) (fs : List OpenStatement) (found : Nodes) (h : Head) → GoesOn (around fs) h tokens → head_depth h ≤ limit - suc (length fs)
        → option_and_then rest (option_and_then (λ t. opened limit true t h) (divided chains fs found)) ≡ Some x → Goes limit ds c q fs found (Block tokens ∷ i) x
    goes-on-by again q [] found h a le e = absurd (cc)
    goes-on-by again q (f ∷ fs) found h a le e =
        let g = if_then (chains f.head) (λ o. option_and_then rest (option_and_then (λ t. opened limit true t h) o)) (divided_by f f.body fs found) x refl e in
        goes-on-divided again q f fs found h g.0 a le f.body refl g.1

    else-divided : Again → (q : Surroundings) (f : OpenStatement) (fs : List OpenStatement) (found : Nodes) → IsTrue (splits f.head) → IsWord k.Else (codes "else") tokens
        → (b : Option Nodes) → f.body ≡ b → option_and_then rest (divided_by f b fs found) ≡ Some x → Goes limit ds c q (f ∷ fs) found (Block tokens ∷ i) x
    else-divided again q f fs found s a (Some body) n e = absurd (cc)
    else-divided again q f fs found s a None n e = else-got limit ds i x tokens c q f fs found n s a (again f.surroundings (half f found ∷ fs) NoNodes e)

    else-by : Again → (q : Surroundings) (fs : List OpenStatement) (found : Nodes) → IsWord k.Else (codes "else") tokens → option_and_then rest (divided splits fs found) ≡ Some x → Goes limit ds c q fs found (Block tokens ∷ i) x
    else-by again q [] found a e = absurd (cc)
    else-by again q (f ∷ fs) found a e =
        let g = if_then (splits f.head) (option_and_then rest) (divided_by f f.body fs found) x refl e in
        else-divided again q f fs found g.0 a f.body refl g.1

    end-by : Again → (q : Surroundings) (fs : List OpenStatement) (found : Nodes) → option_and_then rest (shut tokens fs found) ≡ Some x → Goes limit ds c q fs found (Block tokens ∷ i) x
    end-by again q [] found e = absurd (cc)
    end-by again q (f ∷ fs) found e =
        let g = if_then (ends f.head tokens) (option_and_then rest) (closed (f ∷ fs) found) x refl e in
        end-got q f fs found f.body refl g.0 (closes again fs f.is_chained f.surroundings (row f found) g.1)

    taken-by : Again → (q : Surroundings) (fs : List OpenStatement) (found : Nodes) (t : Tag) → Meant (limit - suc (length fs)) q (around fs) tokens t
        → option_and_then rest (taken limit (at q fs found) tokens t) ≡ Some x → Goes limit ds c q fs found (Block tokens ∷ i) x
    taken-by again q fs found (Single n) m e = one-got q fs found n (Block tokens) (λ y l d. single m.0 d) m.1 again e
    taken-by again q fs found (Opening h) m e = opened-by again q fs found h m.0 m.1 e
    taken-by again q fs found (GoingOn h) m e = goes-on-by again q fs found h m.0 m.1 e
    taken-by again q fs found Dividing m e = else-by again q fs found m e
    taken-by again q fs found Closing m e = end-by again q fs found e

    block : Again → (q : Surroundings) (fs : List OpenStatement) (found : Nodes) → option_and_then rest (statement limit (at q fs found) tokens) ≡ Some x → Goes limit ds c q fs found (Block tokens ∷ i) x
    unfolding statement
    block again q fs found e =
        let s = at q fs found in
        let p = and_then-both rest (taken limit s tokens) (tag (room limit s) q (around fs) tokens) x e in
        taken-by again q fs found p.0 (tag_sound (room limit s) q (around fs) tokens p.0 p.1) p.2

pub fused : {A B C : Type 0} (f : B → Option C) (g : A → B) (o : Option A) → option_and_then f (option_map g o) ≡ option_and_then (λ t. f (g t)) o
fused f g None = refl
fused f g (Some t) = refl

module _ (limit : ℕ) (tokens : List Token) (i : List Piece) (x : All) where
  -- what holds of the pieces behind a tag that stands outside of all statements
  abbrev Onward : Type 0
  Onward = (ds : Definitions) (c : Option OpenComponent) (q : Surroundings) (fs : List OpenStatement) (found : Nodes) → parts_read_on limit (among ds c (at q fs found)) i ≡ Some x → Goes limit ds c q fs found i x

  abbrev onward : Parts → Option All
  onward p = parts_read_on limit p i

  any-block : Onward → (ds : Definitions) (c : Option OpenComponent) (q : Surroundings) (fs : List OpenStatement) (found : Nodes) → option_and_then onward (plain_step limit (among ds c (at q fs found)) (Block tokens)) ≡ Some x
      → Goes limit ds c q fs found (Block tokens ∷ i) x
  any-block again ds c q fs found h =
      block limit ds c i x tokens (again ds c) q fs found (sym (fused onward (among ds c) (statement limit (at q fs found) tokens)) ∙ h)

  component-got : Onward → (ds : Definitions) (q : Surroundings) (found : Nodes) → is_component tokens ≡ true → (o : Option Signature) → signed limit (next (begin false tokens)) ≡ o
      → option_and_then onward (option_map (component_begun (among ds None (at q [] found))) o) ≡ Some x → Goes limit ds None q [] found (Block tokens ∷ i) x
  component-got again ds q found e None f h = absurd (cc)
  component-got again ds q found e (Some s) f h =
      let d = defines_sound limit tokens s e f in
      begins empty (omega arith) (join-none found) d.0 d.1 (again ds (Some (opening found s)) in_component [] NoNodes h)

  top-got : Onward → (ds : Definitions) (q : Surroundings) (found : Nodes) (b : Bool) → is_component tokens ≡ b
      → option_and_then onward (if b then option_map (component_begun (among ds None (at q [] found))) (signed limit (next (begin false tokens))) else plain_step limit (among ds None (at q [] found)) (Block tokens)) ≡ Some x
      → Goes limit ds None q [] found (Block tokens ∷ i) x
  top-got again ds q found true e h = component-got again ds q found e (signed limit (next (begin false tokens))) refl h
  top-got again ds q found false e h = any-block again ds None q [] found h

  component-end-got : Onward → (ds : Definitions) (c : OpenComponent) (q : Surroundings) (found : Nodes) (b : Bool) → ends_component c.signature.name tokens ≡ b
      → option_and_then onward (if b then Some (component_ended (among ds (Some c) (at q [] found)) c) else plain_step limit (among ds (Some c) (at q [] found)) (Block tokens)) ≡ Some x
      → Goes limit ds (Some c) q [] found (Block tokens ∷ i) x
  component-end-got again ds c q found true e h = finishes empty (omega arith) (join-none found) e (again (ds ++ (c.signature, found) ∷ []) None outside [] c.before h)
  component-end-got again ds c q found false e h = any-block again ds (Some c) q [] found h

pub goes : (limit : ℕ) (i : List Piece) (ds : Definitions) (c : Option OpenComponent) (q : Surroundings) (fs : List OpenStatement) (found : Nodes) (x : All) → parts_read_on limit (among ds c (at q fs found)) i ≡ Some x → Goes limit ds c q fs found i x
goes limit [] ds None q [] found x h = done empty (omega arith) (ap (λ n. (n, ds)) (join-none found) ∙ (let e : (found, ds) ≡ x = cc in e))
goes limit [] ds None q (f ∷ fs) found x h = absurd (cc)
goes limit [] ds (Some c) q fs found x h = absurd (cc)
goes limit (Words [] position ∷ i) ds c q fs found x h =
    in_front limit ds c q fs found NoNodes (Words [] position ∷ i) i x (λ y m d. blank d) (omega arith) (subst (λ n. Goes limit ds c q fs n i x) (sym (join-none found)) (goes limit i ds c q fs found x h))
goes limit (Words (b ∷ bs) position ∷ i) ds c q fs found x h =
    let s = at q fs found in
    one-got limit ds c i x q fs found (Content (b ∷ bs) position) (Words (b ∷ bs) position) (λ y m d. content (λ q. cc) d) (omega arith) (λ q fs found h. goes limit i ds c q fs found x h)
    (sym (fused (λ p. parts_read_on limit p i) (among ds c) (put limit s (Content (b ∷ bs) position))) ∙ h)
goes limit (Comment ∷ i) ds c q fs found x h =
    in_front limit ds c q fs found NoNodes (Comment ∷ i) i x (λ y m d. comment d) (omega arith) (subst (λ n. Goes limit ds c q fs n i x) (sym (join-none found)) (goes limit i ds c q fs found x h))
goes limit (Variable tokens ∷ i) ds c q fs found x h =
    let s = at q fs found in
    let onwards : Progress → Option All = λ t. parts_read_on limit (among ds c t) i in
    let v = whole (room limit s) (begin q.in_loop tokens) in
    let p = printed-then limit s onwards v x (sym (fused (λ p. parts_read_on limit p i) (among ds c) (printed limit s v)) ∙ h) in
    let w = whole_sound (room limit s) (begin q.in_loop tokens) p.0 p.1 in
    one-got limit ds c i x q fs found (Print p.0) (Variable tokens) (λ y m d. print w.0 d) (omega (arith, w.1)) (λ q fs found h. goes limit i ds c q fs found x h) p.2
goes limit (Block tokens ∷ i) ds c q (f ∷ fs) found x h =
    any-block limit tokens i x (λ ds c q fs found h. goes limit i ds c q fs found x h) ds c q (f ∷ fs) found h
goes limit (Block tokens ∷ i) ds None q [] found x h =
    top-got limit tokens i x (λ ds c q fs found h. goes limit i ds c q fs found x h) ds q found (is_component tokens) refl h
goes limit (Block tokens ∷ i) ds (Some c) q [] found x h =
    component-end-got limit tokens i x (λ ds c q fs found h. goes limit i ds c q fs found x h) ds c q found (ends_component c.signature.name tokens) refl h
goes limit (Broken ∷ i) ds c q fs found x h = absurd (cc)
