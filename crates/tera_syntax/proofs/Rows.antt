-- Rows of nodes, and what is open around them.
use Rattle.std.proofs.Common.{◌≡◌, ℕ, suc, ◌-◌, ◌≤◌, ◌<◌, max, List, [], ◌∷◌, Bool, true, false, ◌==◌, Option, Some, None, refl, sym, ap, ◌∙◌, arith, length, drop, get_or, reverse, ◌++◌, map}
use Rattle.tera_errors.specs.Site.{Text}
use Rattle.std.proofs.lemmas.Bool.Decides.{Decides-eqb}
use Rattle.std.proofs.lemmas.List.{drop_more, get_or-reverse, length-map, length-reverse, reverse-append}
use Rattle.std.proofs.lemmas.Option.{get_or_from_slice_get, slice_get-get_or, slice_get_within}
use Rattle.std.specs.List.{slice_get}
use Rattle.tera_syntax_tokens.specs.Token.{Token}
use Rattle.tera_syntax_tree.specs.Tree.{Nodes, NoNodes, MoreNodes}
use Rattle.tera_syntax_tree.specs.Depth.{node_depth, nodes_depth}
use Rattle.tera_syntax_tree.specs.declared.node.Node as declared
use Rattle.tera_syntax_tree.specs.View.{node_of, nodes_of}
use Rattle.tera_syntax.specs.Heads.{Head, ends}
use Rattle.tera_syntax.specs.Grammar.{join}
use Rattle.tera_syntax.specs.Reader.{OpenStatement, closed, one, shut, divided}
use Rattle.tera_syntax.specs.Parts.{none_open}
use Rattle.tera_syntax.specs.View.{statement_of, statements_of, head_of}
use Rattle.tera_syntax.specs.declared.open_statements.OpenStatement as statement

zero-not : (n : ℕ) → (suc n == 0) ≡ false
zero-not n = go (suc n == 0) (Decides-eqb (suc n) 0).0
  where
    go : (b : Bool) → (b ≡ true → suc n ≡ 0) → b ≡ false
    go true h = let z : suc n ≡ 0 = h refl in absurd (omega (arith, z))
    go false h = refl

open-by-length : (fs : List OpenStatement) → (length fs == 0) ≡ none_open fs
open-by-length [] = refl
open-by-length (f ∷ fs) = zero-not (length fs)

-- whether nothing is open in memory
pub none-open : (fs : List statement.OpenStatement) → (length fs == 0) ≡ none_open (statements_of fs)
none-open fs = ap (λ n. n == 0) (sym (length-map (reverse fs) statement_of ∙ length-reverse fs)) ∙ open-by-length (statements_of fs)

pub join-none : (m : Nodes) → join m NoNodes ≡ m
join-none NoNodes = refl
join-none (MoreNodes n rest) = ap (MoreNodes n) (join-none rest)

pub join-join : (a b c : Nodes) → join (join a b) c ≡ join a (join b c)
join-join NoNodes b c = refl
join-join (MoreNodes n rest) b c = ap (MoreNodes n) (join-join rest b c)

pub nodes_push : (all : List declared.Node) (n : declared.Node) → nodes_of (all ++ n ∷ []) ≡ join (nodes_of all) (one (node_of n))
nodes_push [] n = refl
nodes_push (m ∷ all) n = ap (MoreNodes (node_of m)) (nodes_push all n)

pub frames_push : (all : List statement.OpenStatement) (f : statement.OpenStatement) → statements_of (all ++ f ∷ []) ≡ statement_of f ∷ statements_of all
frames_push all f = ap (map statement_of) (reverse-append all (f ∷ []))

-- what is open innermost stands last in memory
innermost : (fs : List statement.OpenStatement) (f : statement.OpenStatement) → Some f ≡ slice_get fs (length fs - 1) → (rest : List OpenStatement) × (statements_of fs ≡ statement_of f ∷ rest)
innermost fs f e =
    let w = slice_get_within fs (length fs - 1) f (sym e) in
    let z : length fs - 1 - 0 ≡ length fs - 1 = omega arith in
    let r : get_or (reverse fs) 0 f ≡ f = get_or-reverse fs 0 f (omega arith) ∙ ap (λ k. get_or fs k f) z ∙ get_or_from_slice_get fs (length fs - 1) f f (sym e) in
    let d : reverse fs ≡ get_or (reverse fs) 0 f ∷ drop 1 (reverse fs) = drop_more (reverse fs) 0 f (omega (arith, length-reverse fs)) in
    (map statement_of (drop 1 (reverse fs)), ap (map statement_of) (d ∙ ap (λ x. x ∷ drop 1 (reverse fs)) r))

pub nothing_open : (fs : List statement.OpenStatement) → None ≡ slice_get fs (length fs - 1) → statements_of fs ≡ []
nothing_open [] e = refl
nothing_open (f ∷ fs) e = let s = slice_get-get_or (f ∷ fs) (length (f ∷ fs) - 1) f (omega arith) in absurd (cc)

-- what stands last in memory, where the same stands elsewhere
pub last_of : {o : Option statement.OpenStatement} {gs : List statement.OpenStatement} (fs : List statement.OpenStatement) → gs ≡ fs → o ≡ slice_get gs (length gs - 1) → o ≡ slice_get fs (length fs - 1)
last_of fs same last = last ∙ ap (λ fs. slice_get fs (length fs - 1)) same

-- this is open innermost
module _ (fs : List statement.OpenStatement) {f : statement.OpenStatement} (last : Some f ≡ slice_get fs (length fs - 1)) where
  -- two answers are the same where they are the same whatever stands around it
  at_innermost : {A : Type 0} (one other : List OpenStatement → A) → ((rest : List OpenStatement) → one (statement_of f ∷ rest) ≡ other (statement_of f ∷ rest)) → one (statements_of fs) ≡ other (statements_of fs)
  at_innermost one other same = let t = innermost fs f last in ap one t.1 ∙ same t.0 ∙ sym (ap other t.1)

  pub divided_innermost : (may : Head → Bool) (found : Nodes) → may (head_of f.head) ≡ true → divided (λ head. true) (statements_of fs) found ≡ divided may (statements_of fs) found
  divided_innermost may found h = at_innermost (λ fs. divided (λ head. true) fs found) (λ fs. divided may fs found) (λ rest. rw h refl)

  pub shut_innermost : (tokens : List Token) (found : Nodes) → ends (head_of f.head) tokens ≡ true → closed (statements_of fs) found ≡ shut tokens (statements_of fs) found
  shut_innermost tokens found h = at_innermost (λ fs. closed fs found) (λ fs. shut tokens fs found) (λ rest. rw h refl)

  pub divided_otherwise : (may : Head → Bool) (found : Nodes) → may (head_of f.head) ≡ false → divided may (statements_of fs) found ≡ None
  divided_otherwise may found h = at_innermost (λ fs. divided may fs found) (λ fs. None) (λ rest. rw h refl)

  pub shut_otherwise : (tokens : List Token) (found : Nodes) → ends (head_of f.head) tokens ≡ false → shut tokens (statements_of fs) found ≡ None
  shut_otherwise tokens found h = at_innermost (λ fs. shut tokens fs found) (λ fs. None) (λ rest. rw h refl)

-- how deep rows are
pub deepest : (limit a b : ℕ) → a ≤ limit → b ≤ limit → max a b ≤ limit
deepest limit a b h k = grind arith

pub both-fit : (a b limit : ℕ) → max a b ≤ limit → (a ≤ limit) × (b ≤ limit)
both-fit a b limit le = (omega arith, omega arith)

first-le : (a b limit : ℕ) → max a b ≤ limit → a ≤ limit
first-le a b limit h = omega arith

pub rest-le : (a b limit : ℕ) → max a b ≤ limit → b ≤ limit
rest-le a b limit h = omega arith

pub deep : (a b : Nodes) (limit : ℕ) → nodes_depth a ≤ limit → nodes_depth b ≤ limit → nodes_depth (join a b) ≤ limit
deep NoNodes b limit h k = k
deep (MoreNodes n rest) b limit h k =
    deepest limit (node_depth n) (nodes_depth (join rest b)) (first-le (node_depth n) (nodes_depth rest) limit h) (deep rest b limit (rest-le (node_depth n) (nodes_depth rest) limit h) k)

max-assoc : (a b c : ℕ) → max a (max b c) ≡ max (max a b) c
max-assoc a b c = omega arith

-- a row is as deep as the deeper of its halves
pub join-deep : (a b : Nodes) → nodes_depth (join a b) ≡ max (nodes_depth a) (nodes_depth b)
join-deep NoNodes b = omega arith
join-deep (MoreNodes n rest) b = ap (max (node_depth n)) (join-deep rest b) ∙ max-assoc (node_depth n) (nodes_depth rest) (nodes_depth b)

pub some_bytes : (text : Text) → (length text == 0) ≡ false → 0 < length text
some_bytes [] h = absurd (cc)
some_bytes (b ∷ bs) h = omega arith
