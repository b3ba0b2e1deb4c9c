-- How the climb from operator to operator goes on.
use Rattle.std.proofs.Common.{◌≡◌, ℕ, zero, suc, ◌+◌, ◌<◌, ◌≤◌, ◌⊎◌, inl, List, [], ◌∷◌, Bool, true, false, Option, Some, None, if◌then◌else◌, refl, sym, ◌∙◌, ap, arith}
use Rattle.tera_syntax_tree.specs.Tree.{Expr}
use Rattle.tera_syntax_tree.specs.Depth.{depth}
use Rattle.tera_syntax_tokens.specs.declared.token.Kind.{Kind}
use Rattle.tera_syntax_tokens.specs.declared.token.Kind.TheVariants as k
use Rattle.tera_syntax_tokens.specs.Input.{Input, Parsed, Parser, and_then, same, kind, start, next, left}
use Rattle.tera_syntax_expressions.specs.Expressions as r
use Rattle.tera_syntax_expressions.specs.Expressions.{Deep, deep, needs, gives, begins, goes_on, floor_in, opened, climb, level, level_with, expr, head}
use Rattle.tera_syntax_expressions.proofs.Steps as steps
use Rattle.tera_syntax_expressions.proofs.GoingOn.{Stops, le-true, between, closes, on, off, level-at}
use Rattle.tera_syntax_expressions.proofs.Extent.{next-left}

pub if-mono : {A : Type 0} (c : Bool) (d e : Option A) (y : A) → (d ≡ Some y → e ≡ Some y) → (if c then d else None) ≡ Some y → (if c then e else None) ≡ Some y
if-mono true d e y f h = f h
if-mono false d e y f h = h

pub round-mono : (c : Bool) (o : Parsed Deep) (f g : Deep → Parser Deep) (d e : Parsed Deep) (y : Deep × Input)
    → ((x : Deep) (j : Input) → f x j ≡ Some y → g x j ≡ Some y) → (d ≡ Some y → e ≡ Some y)
    → (if c then and_then o f else d) ≡ Some y → (if c then and_then o g else e) ≡ Some y
round-mono true (Some p) f g d e y m q h = m p.0 p.1 h
round-mono true None f g d e y m q h = h
round-mono false o f g d e y m q h = q h

module _ (limit : ℕ) (sub : ℕ → Parser Deep) where
  pub mono : (n m : ℕ) (os : List ℕ) (floor have from : ℕ) (x : Deep) (i : Input) (y : Deep × Input) → n ≤ m
      → climb limit sub n os floor have from x i ≡ Some y → climb limit sub m os floor have from x i ≡ Some y
  unfolding climb
  mono zero m os floor have from x i y le h = cc
  mono (suc n) zero os floor have from x i y le h = absurd (omega arith)
  mono (suc n) (suc m) [] floor have from x i y le h =
      round-mono (goes_on floor have (kind i)) (r.operation limit sub from x i) (climb limit sub n [] floor (gives (kind i)) from) (climb limit sub m [] floor (gives (kind i)) from)
      (Some (x, i)) (Some (x, i)) y (λ z j e. mono n m [] floor (gives (kind i)) from z j y (omega arith) e) (λ e. e) h
  mono (suc n) (suc m) (o ∷ os) floor have from x i y le h =
      round-mono (goes_on 0 have (kind i)) (r.operation limit sub from x i) (climb limit sub n (o ∷ os) floor (gives (kind i)) from) (climb limit sub m (o ∷ os) floor (gives (kind i)) from)
      (if same k.RightParenthesis (kind i) then climb limit sub n os floor 11 o x (next i) else None) (if same k.RightParenthesis (kind i) then climb limit sub m os floor 11 o x (next i) else None) y
      (λ z j e. mono n m (o ∷ os) floor (gives (kind i)) from z j y (omega arith) e)
      (if-mono (same k.RightParenthesis (kind i)) (climb limit sub n os floor 11 o x (next i)) (climb limit sub m os floor 11 o x (next i)) y (mono n m os floor 11 o x (next i) y (omega arith))) h

  -- one more operator
  pub round : (n floor have have' from : ℕ) (os : List ℕ) (x : Deep) (a : Input) (z : Deep) (j : Input) (y : Deep × Input) → goes_on (floor_in os floor) have (kind a) ≡ true
      → r.operation limit sub from x a ≡ Some (z, j) → gives (kind a) ≡ have' → climb limit sub n os floor have' from z j ≡ Some y → climb limit sub (suc n) os floor have from x a ≡ Some y
  unfolding climb
  round n floor have have' from [] x a z j y g o v h = rw (g, o, v) h
  round n floor have have' from (p ∷ os) x a z j y g o v h = rw (g, o, v) h

  -- a parenthesis closes
  pub close : (n floor have from o : ℕ) (os : List ℕ) (x : Deep) (a : Input) (y : Deep × Input) → kind a ≡ k.RightParenthesis → have ≤ 11
      → climb limit sub n os floor 11 o x (next a) ≡ Some y → climb limit sub (suc n) (o ∷ os) floor have from x a ≡ Some y
  unfolding climb
  close n floor have from o os x a y h le e =
      let q : same k.RightParenthesis (kind a) ≡ true = ap (same k.RightParenthesis) h ∙ steps.same-refl k.RightParenthesis in
      rw (closes have (kind a) h le, q) e

  -- no operator follows that may
  pub stay : (n floor have from : ℕ) (x : Deep) (a : Input) → goes_on floor have (kind a) ≡ false → climb limit sub (suc n) [] floor have from x a ≡ Some (x, a)
  unfolding climb
  stay n floor have from x a g = rw g refl

  -- A level's upper bound only matters where an operator binds between.
  pub lower : (n floor l from : ℕ) (os : List ℕ) (x : Deep) (j : Input) (y : Deep × Input) → Stops l (kind j) → l < 11
      → climb limit sub n os floor l from x j ≡ Some y → climb limit sub n os floor (suc l) from x j ≡ Some y
  unfolding climb
  lower zero floor l from os x j y s lt h = h
  lower (suc n) floor l from [] x j y s lt h = rw (between floor l (kind j) s lt) h
  lower (suc n) floor l from (o ∷ os) x j y s lt h = rw (between 0 l (kind j) s lt) h

pub opened-none : (n : ℕ) (os : List ℕ) (i : Input) → (kind i ≡ k.LeftParenthesis → ⊥) → opened n os i ≡ Some (os, i)
unfolding opened
opened-none zero os i h = refl
opened-none (suc n) os i h = go (same k.LeftParenthesis (kind i)) refl
  where
    go : (b : Bool) → same k.LeftParenthesis (kind i) ≡ b → (if same k.LeftParenthesis (kind i) then opened n (start i ∷ os) (next i) else Some (os, i)) ≡ Some (os, i)
    go true e = absurd (h (steps.same-is k.LeftParenthesis (kind i) e))
    go false e = rw e refl

-- reads on with these parentheses open
unfoldable pub reading : ℕ → ℕ → List ℕ → ℕ → Parser Deep
reading b m os floor = λ i. and_then (opened (left i) os i) (λ os'. level_with (suc b) (expr b) m os' floor)

pub reading-open : (b m floor : ℕ) (os : List ℕ) (i : Input) → kind i ≡ k.LeftParenthesis → reading b m os floor i ≡ reading b m (start i ∷ os) floor (next i)
unfolding reading opened
reading-open b m floor os i h =
    let q : same k.LeftParenthesis (kind i) ≡ true = ap (same k.LeftParenthesis) h ∙ steps.same-refl k.LeftParenthesis in
    let e : left i ≡ suc (left (next i)) = next-left k.LeftParenthesis i h (λ e. cc) in
    let f : opened (left i) os i ≡ opened (left (next i)) (start i ∷ os) (next i) = rw (e, q) refl in
    ap (λ o. and_then o (λ os'. level_with (suc b) (expr b) m os' floor)) f

pub reading-head : (b m floor : ℕ) (os : List ℕ) (i : Input) (x : Deep) (j : Input) (y : Deep × Input) → (kind i ≡ k.LeftParenthesis → ⊥) → floor_in os floor ≤ begins (kind i)
    → head (suc b) (expr b) i ≡ Some (x, j) → climb (suc b) (expr b) m os floor (begins (kind i)) (start i) x j ≡ Some y → reading b m os floor i ≡ Some y
unfolding reading level_with
reading-head b m floor os i x j y n le h c =
    rw (opened-none (left i) os i n, le-true (floor_in os floor) (begins (kind i)) le, h) c

-- Reading what is derived leaves the derived expression before the rest.
abbrev pub Goes : ℕ → Expr → Input → Input → Type 0
Goes l x i j = (b m n floor : ℕ) (os : List ℕ) (y : Deep × Input) → depth x ≤ suc b → floor_in os floor ≤ l → Stops l (kind j)
    → n + left i ≤ m + left j + 1 → climb (suc b) (expr b) n os floor l (start i) (deep x) j ≡ Some y → reading b m os floor i ≡ Some y

-- A part is read whole, where what follows does not go on with it.
abbrev pub Whole : ℕ → Expr → Input → Input → Type 0
Whole l x i j = (b : ℕ) → depth x ≤ b → expr b l i ≡ Some (deep x, j)

pub whole : (l : ℕ) (x : Expr) (i j : Input) → Goes l x i j → Stops l (kind j) → (gives (kind j) < l) ⊎ (l < needs (kind j)) → 0 < depth x → Whole l x i j
unfolding expr level reading
whole l x i j g s o pos zero le = absurd (omega arith)
whole l x i j g s o pos (suc b) le =
    g b (left i) 1 l [] (deep x, j) le (omega arith) s (omega arith) (stay (suc b) (expr b) 0 l l (start i) (deep x) j (off l l (kind j) o))

abbrev pub part-read : ℕ → ℕ → Expr → Input → Input → Type 0
part-read b l x i j = expr b l i ≡ Some (deep x, j)

-- an operator goes on with what is derived before it
pub goes-on : (b m n floor have have' : ℕ) (os : List ℕ) (x z : Expr) (i a j : Input) (y : Deep × Input) → Goes have x i a → depth x ≤ suc b
    → floor_in os floor ≤ have' → have' ≤ have → needs (kind a) ≡ have → gives (kind a) ≡ have' → n + left i ≤ m + left j + 1 → left j < left a
    → r.operation (suc b) (expr b) (start i) (deep x) a ≡ Some (deep z, j) → climb (suc b) (expr b) n os floor have' (start i) (deep z) j ≡ Some y → reading b m os floor i ≡ Some y
goes-on b m n floor have have' os x z i a j y g dep fl le needs gives fu sh o c =
    g b m (suc n) floor os y dep (omega arith) (inl (omega arith)) (omega arith)
    (round (suc b) (expr b) n floor have have' (start i) os (deep x) a (deep z) j y (on (floor_in os floor) have (kind a) (omega arith) (omega arith)) o gives c)

-- what stands first is read first
pub goes-first : (b m n floor l : ℕ) (os : List ℕ) (s : Kind) (x : Expr) (i j : Input) (y : Deep × Input) → kind i ≡ s → (s ≡ k.LeftParenthesis → ⊥) → begins s ≡ l → floor_in os floor ≤ l → n ≤ m
    → head (suc b) (expr b) i ≡ Some (deep x, j) → climb (suc b) (expr b) n os floor l (start i) (deep x) j ≡ Some y → reading b m os floor i ≡ Some y
goes-first b m n floor l os s x i j y h never be fl le e c =
    let f : begins (kind i) ≡ l = level-at begins (kind i) s l h be in
    reading-head b m floor os i (deep x) j y (λ p. never (sym h ∙ p)) (omega arith) e
    (rw f (mono (suc b) (expr b) n m os floor l (start i) (deep x) j y le c))

pub head-is : (limit : ℕ) (part : ℕ → Parser Deep) (i : Input) (s : Kind) → kind i ≡ s → head limit part i ≡ r.head_by limit part s i
unfolding head
head-is limit part i s h = ap (λ s. r.head_by limit part s i) h

-- a leaf is read
pub goes-leaf : (s : Kind) (x : Expr) (i : Input) → kind i ≡ s → (s ≡ k.LeftParenthesis → ⊥) → (s ≡ k.End → ⊥) → begins s ≡ 11 → ((b : ℕ) → r.head_by (suc b) (expr b) s i ≡ Some (deep x, next i)) → Goes 11 x i (next i)
goes-leaf s x i h never some be e b m n floor os y dep fl st fu c =
    let t1 = next-left s i h some in
    goes-first b m n floor 11 os s x i (next i) y h never be fl (omega arith) (head-is (suc b) (expr b) i s h ∙ e b) c
