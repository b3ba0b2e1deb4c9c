-- What the steps of a reader say once they gave a value.
use Rattle.std.proofs.Common.{◌≡◌, ℕ, suc, ◌+◌, ◌<◌, ◌≤◌, ◌&&◌, not, Bool, true, false, nat_lt, Option, Some, None, if◌then◌else◌, refl, sym, ◌∙◌, ap, subst, arith, rules, ◌⊎◌, inl, inr}
use Rattle.std.proofs.lemmas.Grind.{common_steps}
use denote.Enum.Bare.{same_true}
use Rattle.tera_syntax_tree.specs.Tree.{Expr}
use Rattle.tera_syntax_tree.specs.Depth.{depth}
use Rattle.tera_syntax_tokens.specs.contracts.token.Kind.{the_type}
use Rattle.tera_syntax_tokens.specs.declared.token.Kind.{Kind}
use Rattle.tera_syntax_tokens.specs.declared.token.Kind.TheVariants as k
use Rattle.tera_syntax_tokens.specs.Input.{Input, Parsed, Parser, and_then, same, kind, next, expect, is_word}
use Rattle.tera_syntax_expressions.specs.Arguments.{is_test_name}
use Rattle.tera_syntax_expressions.specs.Expressions.{Deep, deep, node}

pub and_then-some : {A B : Type 0} (o : Parsed A) (f : A → Parser B) (y : B × Input) → and_then o f ≡ Some y → (x : A) × (j : Input) × (o ≡ Some (x, j)) × (f x j ≡ Some y)
and_then-some None f y h = cc
and_then-some (Some p) f y h = (p.0, p.1, refl, h)

pub guard : {A : Type 0} (b : Bool) (o : Option A) (y : A) → (if b then o else None) ≡ Some y → (b ≡ true) × (o ≡ Some y)
guard true o y h = (refl, h)
guard false o y h = cc

pub chosen : {A : Type 0} (b : Bool) (o p : A) (y : A) → (if b then o else p) ≡ y → ((b ≡ true) × (o ≡ y)) ⊎ ((b ≡ false) × (p ≡ y))
chosen true o p y h = inl (refl, h)
chosen false o p y h = inr (refl, h)

pub same-is : (a b : Kind) → same a b ≡ true → b ≡ a
same-is a b h = same_true the_type (search rules) _ _ h

pub same-refl : (a : Kind) → same a a ≡ true
same-refl a = search rules

-- a kind beside another
pub differ : (s t u : Kind) → u ≡ t → (s ≡ t → ⊥) → same s u ≡ false
differ s t u h n = go (same s u) refl
  where
    go : (b : Bool) → same s u ≡ b → same s u ≡ false
    go true e = absurd (n (sym (same-is s u e) ∙ h))
    go false e = e

pub unlike : (s u : Kind) → (u ≡ s → ⊥) → same s u ≡ false
unlike s u n = go (same s u) refl
  where
    go : (b : Bool) → same s u ≡ b → same s u ≡ false
    go true e = absurd (n (same-is s u e))
    go false e = e

pub alike : (s u : Kind) → u ≡ s → same s u ≡ true
alike s u h = ap (same s) h ∙ same-refl s

pub some-pair : {A B : Type 0} (p q : A × B) → Some p ≡ Some q → (p.0 ≡ q.0) × (p.1 ≡ q.1)
some-pair p q h = let e : p ≡ q = cc in (ap (λ r. r.0) e, ap (λ r. r.1) e)

pub unlike-is : (s u : Kind) → same s u ≡ false → u ≡ s → ⊥
unlike-is s u h e = let f : false ≡ true = sym h ∙ alike s u e in cc

pub both : (p q : Bool) → (p && not q) ≡ true → (p ≡ true) × (q ≡ false)
both true false h = (refl, refl)
both true true h = absurd (cc)
both false q h = absurd (cc)

-- the name of a test is a word
pub test-name : (s : Kind) → is_test_name s ≡ true → (is_word s ≡ true) × (same k.Not s ≡ false)
unfolding is_test_name
test-name s h = both (is_word s) (same k.Not s) h

pub expect-some : (s : Kind) (i j : Input) (y : Unit {0}) → expect s i ≡ Some (y, j) → (kind i ≡ s) × (j ≡ next i)
unfolding expect
expect-some s i j y h = let g = guard (same s (kind i)) (Some (tt, next i)) (y, j) h in
    (same-is s (kind i) g.0, sym (some-pair (tt, next i) (y, j) g.1).1)

pub either : {A B C : Type 0} → A ⊎ B → (A → C) → (B → C) → C
either (inl a) f g = f a
either (inr b) f g = g b

-- what was read, and what stands behind it
abbrev pub at : {A : Type 0} → A → Input → Option (A × Input)
at x i = Some (x, i)

pub same-value : {A : Type 0} (P : A → Input → Type 0) (x y : A) (i j : Input) → at x i ≡ at y j → P x i → P y j
same-value P x y i j h p = let q = some-pair (x, i) (y, j) h in subst (λ z. P z j) q.0 (subst (P x) q.1 p)

pub node-got : (P : Deep → Input → Type 0) (limit d : ℕ) (x : Expr) (i j : Input) (y : Deep) → node limit d x i ≡ Some (y, j) → depth x ≡ suc d → (depth x ≤ limit → P (deep x) i) → P y j
unfolding node
node-got P limit d x i j y h e p =
    let g = guard (nat_lt d limit) (Some (record { expr = x; depth = d + 1 }, i)) (y, j) h in
    let l : d < limit = grind (arith, common_steps, g.0) in
    let f : depth x ≡ d + 1 = omega arith in
    let at : ℕ → Type 0 = λ n. P (record { expr = x; depth = n }) i in
    same-value P (record { expr = x; depth = d + 1 }) y i j g.1 (subst at f (p (omega arith)))
