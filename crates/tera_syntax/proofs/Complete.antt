-- What is derived is read.
use Rattle.std.proofs.Common.{◌≡◌, ℕ, suc, ◌-◌, ◌≤◌, ◌<◌, max, nat_lt, List, [], ◌∷◌, Bool, true, false, Option, Some, None, IsTrue, if◌then◌else◌, refl, ap, sym, ◌∙◌, arith, length}
use Rattle.std.proofs.lemmas.Grind.{common_steps}
use Rattle.std.specs.Prelude.{option_and_then, codes}
use Rattle.tera_syntax_tokens.specs.declared.token.Kind.TheVariants as k
use Rattle.tera_syntax_tokens.specs.Token.{Token}
use Rattle.tera_syntax_tokens.specs.Cut.{Piece, Words, Comment, Variable, Block}
use Rattle.tera_syntax_tree.specs.Tree.{Expr, Content, Print, Break, Node, Nodes, NoNodes}
use Rattle.tera_syntax_tree.specs.Depth.{depth, node_depth, nodes_depth}
use Rattle.tera_syntax.specs.declared.heads.Surroundings.{Surroundings}
use Rattle.tera_syntax.specs.Heads.{Head, IfHead, ForHead, BlockHead, make, head_depth, splits, chains, inside, ends}
use Rattle.tera_syntax.specs.Grammar.{IsWord, Simple, Opens, GoesOn, join, DerivesNodes, empty, content, blank, comment, print, single, bodied, DerivesRest, ended, split, chained}
use Rattle.tera_syntax.specs.Reader.{OpenStatement, Progress, Tag, Single, Opening, GoingOn, Dividing, Closing, one, printed, put, room, opened, closed, around, tag, taken, statement, step}
use Rattle.tera_syntax.proofs.Rows.{join-none, join-join}
use Rattle.tera_syntax.proofs.Whole.{whole_complete}
use Rattle.tera_syntax.proofs.OneTag.{simple_read, opens_read, goes_on_read, else_read, ends_read}

abbrev pub at : Surroundings → List OpenStatement → Nodes → Progress
at q fs found = record { statements = fs; found = found; surroundings = q }

-- a statement of which the body is being read
abbrev pub asking : Nodes → Head → Bool → Surroundings → OpenStatement
asking before head is_chained q = record { before = before; head = head; body = None; is_chained = is_chained; surroundings = q }

-- a statement of which the body was read
abbrev pub halved : Nodes → Head → Bool → Surroundings → Nodes → OpenStatement
halved before head is_chained q body = record { before = before; head = head; body = Some body; is_chained = is_chained; surroundings = q }

-- How deep the parts of a statement are

pub node-some : (n : Node) → 0 < node_depth n
node-some Break = omega arith
node-some _ = omega arith

head-fits : (h : Head) (b o : Nodes) (m : ℕ) → node_depth (make h b o) ≤ suc m → (head_depth h ≤ m) × (nodes_depth b ≤ m)
head-fits (BlockHead n s) b o m le = (omega arith, omega (arith, le))
head-fits _ b o m le = (omega (arith, le), omega (arith, le))

other-fits : (h : Head) (b o : Nodes) (m : ℕ) → splits h ≡ true → node_depth (make h b o) ≤ suc m → nodes_depth o ≤ m
other-fits (IfHead c) b o m q le = omega (arith, le)
other-fits (ForHead k n e) b o m q le = omega (arith, le)
other-fits _ b o m q le = absurd (cc)

chains-split : (h : Head) → chains h ≡ true → splits h ≡ true
chains-split (IfHead c) q = refl
chains-split _ q = absurd (cc)

rest-fits : {q : Surroundings} {h : Head} {o : Nodes} {i j : List Piece} → DerivesRest q h o i j → (b : Nodes) (m : ℕ) → node_depth (make h b o) ≤ suc m → nodes_depth o ≤ m
rest-fits (ended e) b m le = omega arith
rest-fits {h = h} {o = o} (split s w d e) b m le = other-fits h b o m s le
rest-fits {h = h} (chained {further = f} {body = x} {other = y} s g d o) b m le = other-fits h b (one (make f x y)) m (chains-split h s) le

first-fits : (n r limit h : ℕ) → 0 < n → max n r ≤ limit - h → (h < limit) × (n ≤ suc (limit - suc h)) × (r ≤ limit - h)
first-fits n r limit h p le = (omega arith, omega arith, omega arith)

print-fits : (v : Expr) (limit h : ℕ) → h < limit → node_depth (Print v) ≤ suc (limit - suc h) → depth v ≤ limit - suc h
print-fits v limit h lt le = omega (arith, lt, le)

-- What is read

module _ (limit : ℕ) where
  has-room : (fs : List OpenStatement) (A : Option Progress) → length fs < limit → (if nat_lt (length fs) limit then A else None) ≡ A
  has-room fs A lt =
      let t : nat_lt (length fs) limit ≡ true = grind (arith, common_steps) in
      ap (λ (b : Bool). if b then A else None) t

  statement-by : (s : Progress) (tokens : List Token) (t : Tag) → tag (room limit s) s.surroundings (around s.statements) tokens ≡ Some t → statement limit s tokens ≡ taken limit s tokens t
  unfolding statement
  statement-by s tokens t e = ap (option_and_then (taken limit s tokens)) e

  pub put-read : (q : Surroundings) (fs : List OpenStatement) (found : Nodes) (n : Node) → length fs < limit → put limit (at q fs found) n ≡ Some (at q fs (join found (one n)))
  put-read q fs found n lt = has-room fs (Some (at q fs (join found (one n)))) lt

  opened-read : (q : Surroundings) (c : Bool) (fs : List OpenStatement) (found : Nodes) (h : Head) → length fs < limit → opened limit c (at q fs found) h ≡ Some (at (inside h q) (asking found h c q ∷ fs) NoNodes)
  opened-read q c fs found h lt = has-room fs (Some (at (inside h q) (asking found h c q ∷ fs) NoNodes)) lt

  single-read : {q : Surroundings} {n : Node} {tokens : List Token} → Simple q n tokens → (fs : List OpenStatement) (found : Nodes) → length fs < limit → node_depth n ≤ suc (limit - suc (length fs))
      → statement limit (at q fs found) tokens ≡ Some (at q fs (join found (one n)))
  single-read {q = q} {n = n} {tokens = tokens} a fs found lt le =
      statement-by (at q fs found) tokens (Single n) (simple_read (room limit (at q fs found)) q (around fs) tokens a le) ∙ put-read q fs found n lt

  bodied-read : {q : Surroundings} {h : Head} {tokens : List Token} → Opens q h tokens → (fs : List OpenStatement) (found : Nodes) → length fs < limit → head_depth h ≤ limit - suc (length fs)
      → statement limit (at q fs found) tokens ≡ Some (at (inside h q) (asking found h false q ∷ fs) NoNodes)
  bodied-read {q = q} {h = h} {tokens = tokens} a fs found lt le =
      statement-by (at q fs found) tokens (Opening h) (opens_read (room limit (at q fs found)) q (around fs) tokens a le) ∙ opened-read q false fs found h lt

  may-divide : (b : Bool) (A : Option Progress) → b ≡ true → (if b then A else None) ≡ A
  may-divide b A e = ap (λ (b : Bool). if b then A else None) e

  module _ (p q : Surroundings) (c : Bool) (before : Nodes) (h : Head) (fs : List OpenStatement) (body : Nodes) (tokens : List Token) where
    abbrev here : Progress
    here = at p (asking before h c q ∷ fs) body

    ended-read : IsTrue (ends h tokens) → statement limit here tokens ≡ closed (asking before h c q ∷ fs) body
    ended-read e =
        statement-by here tokens Closing (ends_read (room limit here) p q tokens h e)
        ∙ may-divide (ends h tokens) (closed (asking before h c q ∷ fs) body) e

    else-divides : splits h ≡ true → IsWord k.Else (codes "else") tokens → statement limit here tokens ≡ Some (at q (halved before h c q body ∷ fs) NoNodes)
    else-divides s w =
        statement-by here tokens Dividing (else_read (room limit here) p q tokens w)
        ∙ may-divide (splits h) (Some (at q (halved before h c q body ∷ fs) NoNodes)) s

    goes-on : (f : Head) → chains h ≡ true → GoesOn q f tokens → suc (length fs) < limit → head_depth f ≤ limit - suc (suc (length fs))
        → statement limit here tokens ≡ Some (at (inside f q) (asking NoNodes f true q ∷ halved before h c q body ∷ fs) NoNodes)
    goes-on f s g lt le =
        let half = at q (halved before h c q body ∷ fs) NoNodes in
        statement-by here tokens (GoingOn f) (goes_on_read (room limit here) p q tokens g le)
        ∙ ap (option_and_then (λ (t : Progress). opened limit true t f)) (may-divide (chains h) (Some half) s)
        ∙ opened-read q true (halved before h c q body ∷ fs) NoNodes f lt

    half-ended-read : (other : Nodes) → IsTrue (ends h tokens) → statement limit (at p (halved before h c q body ∷ fs) other) tokens ≡ closed (halved before h c q body ∷ fs) other
    half-ended-read other e =
        statement-by (at p (halved before h c q body ∷ fs) other) tokens Closing (ends_read (room limit here) p q tokens h e)
        ∙ may-divide (ends h tokens) (closed (halved before h c q body ∷ fs) other) e

  -- What reads pieces one by one: a step that is taken leads on, and in a statement nothing else is done.
  module _ {X : Type 0} (read : Progress → List Piece → Option X) (moves : (s t : Progress) (p : Piece) (i : List Piece) → step limit s p ≡ Some t → read s (p ∷ i) ≡ read t i)
      (moves-in : (q : Surroundings) (f : OpenStatement) (fs : List OpenStatement) (found : Nodes) (p : Piece) (i : List Piece) → read (at q (f ∷ fs) found) (p ∷ i) ≡ option_and_then (λ t. read t i) (step limit (at q (f ∷ fs) found) p)) where
    mutual
      pub reads : {q : Surroundings} {x : Nodes} {i j : List Piece} → DerivesNodes q x i j → (fs : List OpenStatement) (found : Nodes) → nodes_depth x ≤ limit - length fs
          → read (at q fs found) i ≡ read (at q fs (join found x)) j
      reads {q = q} {j = j} empty fs found le = ap (λ n. read (at q fs n) j) (sym (join-none found))
      reads (content {words = []} filled d) fs found le = absurd (filled refl)
      reads {q = q} {j = j} (content {words = b ∷ bs} {position = position} {rest = rest} {i = i} filled d) fs found le =
          let n = Content (b ∷ bs) position in
          let s = first-fits 1 (nodes_depth rest) limit (length fs) (omega arith) le in
          moves (at q fs found) (at q fs (join found (one n))) (Words (b ∷ bs) position) i (put-read q fs found n s.0)
          ∙ reads d fs (join found (one n)) s.2
          ∙ ap (λ n. read (at q fs n) j) (join-join found (one n) rest)
      reads {q = q} (blank {position = position} {i = i} d) fs found le = moves (at q fs found) (at q fs found) (Words [] position) i refl ∙ reads d fs found le
      reads {q = q} (comment {i = i} d) fs found le = moves (at q fs found) (at q fs found) Comment i refl ∙ reads d fs found le
      reads {q = q} {j = j} (print {value = value} {tokens = tokens} {rest = rest} {i = i} v d) fs found le =
          let n = Print value in
          let s = first-fits (node_depth n) (nodes_depth rest) limit (length fs) (node-some n) le in
          moves (at q fs found) (at q fs (join found (one n))) (Variable tokens) i
          (ap (printed limit (at q fs found)) (whole_complete v (room limit (at q fs found)) (print-fits value limit (length fs) s.0 s.1)) ∙ put-read q fs found n s.0)
          ∙ reads d fs (join found (one n)) s.2
          ∙ ap (λ n. read (at q fs n) j) (join-join found (one n) rest)
      reads {q = q} {j = j} (single {node = n} {tokens = tokens} {rest = rest} {i = i} a d) fs found le =
          let s = first-fits (node_depth n) (nodes_depth rest) limit (length fs) (node-some n) le in
          moves (at q fs found) (at q fs (join found (one n))) (Block tokens) i (single-read a fs found s.0 s.1)
          ∙ reads d fs (join found (one n)) s.2
          ∙ ap (λ n. read (at q fs n) j) (join-join found (one n) rest)
      reads {q = q} {j = j} (bodied {head = h} {tokens = tokens} {body = body} {other = other} {rest = rest} {i = i} a b o d) fs found le =
          let n = make h body other in
          let s = first-fits (node_depth n) (nodes_depth rest) limit (length fs) (node-some n) le in
          let f = head-fits h body other (limit - suc (length fs)) s.1 in
          moves (at q fs found) (at (inside h q) (asking found h false q ∷ fs) NoNodes) (Block tokens) i (bodied-read a fs found s.0 f.0)
          ∙ reads b (asking found h false q ∷ fs) NoNodes f.1
          ∙ rests o (inside h q) found false fs body (rest-fits o body (limit - suc (length fs)) s.1)
          ∙ reads d fs (join found (one n)) s.2
          ∙ ap (λ n. read (at q fs n) j) (join-join found (one n) rest)

      rests : {q : Surroundings} {h : Head} {x : Nodes} {i j : List Piece} → DerivesRest q h x i j → (p : Surroundings) (before : Nodes) (c : Bool) (fs : List OpenStatement) (body : Nodes) → nodes_depth x ≤ limit - suc (length fs)
          → read (at p (asking before h c q ∷ fs) body) i ≡ option_and_then (λ t. read t j) (closed (halved before h c q body ∷ fs) x)
      rests {q = q} {h = h} (ended {tokens = tokens} {i = i} e) p before c fs body le =
          moves-in p (asking before h c q) fs body (Block tokens) i
          ∙ ap (option_and_then (λ t. read t i)) (ended-read p q c before h fs body tokens e)
      rests {q = q} {h = h} (split {tokens = tokens} {last = last} {body = x} {i = i} {j = j} s w d e) p before c fs body le =
          moves (at p (asking before h c q ∷ fs) body) (at q (halved before h c q body ∷ fs) NoNodes) (Block tokens) i (else-divides p q c before h fs body tokens s w)
          ∙ reads d (halved before h c q body ∷ fs) NoNodes le
          ∙ moves-in q (halved before h c q body) fs x (Block last) j
          ∙ ap (option_and_then (λ t. read t j)) (half-ended-read q q c before h fs body last x e)
      rests {q = q} {h = h} (chained {further = f} {tokens = tokens} {body = x} {other = y} {i = i} s g b o) p before c fs body le =
          let n = make f x y in
          let z = first-fits (node_depth n) 0 limit (suc (length fs)) (node-some n) le in
          let v = head-fits f x y (limit - suc (suc (length fs))) z.1 in
          let half = halved before h c q body ∷ fs in
          moves (at p (asking before h c q ∷ fs) body) (at (inside f q) (asking NoNodes f true q ∷ half) NoNodes) (Block tokens) i (goes-on p q c before h fs body tokens f s g z.0 v.0)
          ∙ reads b (asking NoNodes f true q ∷ half) NoNodes v.1
          ∙ rests o (inside f q) NoNodes true half x (rest-fits o x (limit - suc (suc (length fs))) z.1)
