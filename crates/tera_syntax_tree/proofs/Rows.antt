-- Nodes in a row, and their bodies: what is free before them.
use Rattle.std.proofs.Common.{◌≡◌, ℕ, ◌+◌, ◌<◌, Bool, true, false, not, ◌&&◌, ◌||◌, List, length, drop, get_or, Result, OnOk, refl, sym, ap, ap₂, ◌∙◌}
use mathlib.Core.Path.{fun_ext}
use Rattle.std.specs.declared.alloc.AllocError.{AllocError}
use Rattle.tera_syntax_tree.specs.declared.node.Node as declared
use Rattle.tera_syntax_tree.specs.Tree.{Node, For, Nodes, body_of, other_of}
use Rattle.tera_syntax_tree.specs.View.{node_of, nodes_of}
use Rattle.tera_syntax_tree.specs.Free.{Names, nobody, tag_free, body_names, is_loop, own_binds, node_free, free, node_binds, binds, ◌∪◌, ◌∖◌}
use Rattle.tera_syntax_tree.specs.Sets.{before, before_all, before_body}
use Rattle.tera_syntax_tree.proofs.Unions.{ok-then, union-assoc, before-both}
use Rattle.tera_syntax_tree.proofs.Forms.{drop-here}
use Rattle.tera_syntax_tree.proofs.Walks.{binds_of_bodies, free_of_bodies}

-- one node more, from the end
pub one-before : (nodes : List declared.Node) (i : ℕ) (x : declared.Node) (l m n : Names) → i < length nodes → x ≡ get_or nodes i x → m ≡ before_all (nodes_of (drop (i + 1) nodes)) l → n ≡ before (node_of x) m → n ≡ before_all (nodes_of (drop i nodes)) l
one-before nodes i x l m n lt is h g =
    let rest = nodes_of (drop (i + 1) nodes) in
    g ∙ ap (before (node_of x)) h ∙ before-both (node_free (node_of x)) (free rest) (node_binds false (node_of x)) (binds false rest) l ∙ sym (ap (λ xs. before_all (nodes_of xs) l) (drop-here nodes i x lt is))

behind_by : (g d e o l : Bool) → (not e && (g || (not d && (not o && l)))) ≡ ((not e && g) || (not (o || (e || d)) && l))
behind_by g d true true l = refl
behind_by g d true false l = refl
behind_by true d false o l = refl
behind_by false true false true l = refl
behind_by false false false true l = refl
behind_by false d false false l = refl

-- what stands behind a node: o of what it sets, g and d of its other body and e of its first one
behind_all : (g d e o l : Names) → (g ∪ ((l ∖ o) ∖ d)) ∖ e ≡ (g ∖ e) ∪ (l ∖ (o ∪ (e ∪ d)))
behind_all g d e o l = fun_ext (λ n. behind_by (g n) (d n) (e n) (o n) (l n))

-- a node: what it sets is taken away, then come its bodies and its tag
pub node-before : (r : Result (Unit {0}) AllocError) (node : Node) (l m p q n : Names) → m ≡ l ∖ own_binds false node → p ≡ before_all (other_of node) m → q ≡ before_body node p → OnOk r (n ≡ tag_free node ∪ q) → OnOk r (n ≡ before node l)
node-before r node l m p q n own other body tag =
    let t = tag_free node in
    let f = free (body_of node) ∖ body_names node in
    let g = free (other_of node) in
    let d = binds false (other_of node) in
    let e = binds (is_loop node) (body_of node) in
    let o = own_binds false node in
    let behind : q ≡ f ∪ ((g ∖ e) ∪ (l ∖ (o ∪ (e ∪ d)))) = body ∙ ap (before_body node) (other ∙ ap (before_all (other_of node)) own) ∙ ap (λ x. f ∪ x) (behind_all g d e o l) in
    let whole : t ∪ (f ∪ ((g ∖ e) ∪ (l ∖ (o ∪ (e ∪ d))))) ≡ (t ∪ (f ∪ (g ∖ e))) ∪ (l ∖ (o ∪ (e ∪ d))) = ap (λ x. t ∪ x) (sym (union-assoc f (g ∖ e) _)) ∙ sym (union-assoc t (f ∪ (g ∖ e)) _) in
    ok-then r (λ h. h ∙ ap (λ x. t ∪ x) behind ∙ whole ∙ ap₂ (λ x y. x ∪ (l ∖ y)) (free_of_bodies node) (binds_of_bodies false node)) tag

nothing_by : (f b : Bool) → (f || (not b && false)) ≡ f
nothing_by true b = refl
nothing_by false true = refl
nothing_by false false = refl

-- where nothing stands behind
pub before-nothing : (f b p q : Names) → q ≡ nobody → p ≡ f ∪ (q ∖ b) → p ≡ f
before-nothing f b p q none is =
    is ∙ ap (λ x. f ∪ (x ∖ b)) none ∙ fun_ext (λ n. nothing_by (f n) (b n))

-- the body of a loop, which is found apart
pub loop-before : (r : Result (Unit {0}) AllocError) (f b s e l m i0 i1 i2 n : Names) → m ≡ l ∖ e → i0 ≡ nobody → i1 ≡ f ∪ (i0 ∖ b) → i2 ≡ i1 ∖ s → OnOk r (n ≡ i2 ∪ m) → OnOk r (n ≡ (f ∖ s) ∪ (l ∖ e))
loop-before r f b s e l m i0 i1 i2 n h j0 j1 j2 w =
    let inside : i2 ≡ f ∖ s = j2 ∙ ap (λ x. x ∖ s) (before-nothing f b i1 i0 j0 j1) in
    ok-then r (λ q. q ∙ ap₂ (λ x y. x ∪ y) inside h) w

no_names : (node : Node) → is_loop node ≡ false → body_names node ≡ nobody
no_names (For key n e body other) h = absurd (cc)
no_names _ h = refl

-- the body of any other node
pub body-before : (r : Result (Unit {0}) AllocError) (node : Node) (body : Nodes) (l n : Names) → is_loop node ≡ false → body ≡ body_of node → OnOk r (n ≡ before_all body l) → OnOk r (n ≡ before_body node l)
body-before r node body l n h is =
    ok-then r (λ g. g ∙ ap (λ b. before_all b l) is ∙ ap₂ (λ s b. (free (body_of node) ∖ s) ∪ (l ∖ binds b (body_of node))) (sym (no_names node h)) (sym h))

-- the body of a loop
pub loop-body : (r : Result (Unit {0}) AllocError) (node : Node) (b c : Nodes) (l m i0 i1 i2 n : Names) → is_loop node ≡ true → b ≡ body_of node → c ≡ body_of node → m ≡ l ∖ binds true b → i0 ≡ nobody → i1 ≡ before_all c i0 → i2 ≡ i1 ∖ body_names node → OnOk r (n ≡ i2 ∪ m) → OnOk r (n ≡ before_body node l)
loop-body r node b c l m i0 i1 i2 n h is is' without j0 j1 j2 w =
    loop-before r (free (body_of node)) (binds false (body_of node)) (body_names node) (binds (is_loop node) (body_of node)) l m i0 i1 i2 n (without ∙ ap₂ (λ q x. l ∖ binds q x) (sym h) is) j0 (j1 ∙ ap (λ x. before_all x i0) is') j2 w
