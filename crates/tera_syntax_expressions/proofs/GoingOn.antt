-- Which tokens go on with an expression of a level.
use Rattle.std.proofs.Common.{◌≡◌, ℕ, suc, ◌+◌, ◌-◌, ◌<◌, ◌≤◌, ◌⊎◌, inl, inr, max, Bool, true, false, ◌&&◌, nat_le, refl, sym, ◌∙◌, ap, arith}
use Rattle.std.proofs.lemmas.Grind.{common_steps}
use Rattle.tera_errors.specs.declared.span.Span.{Span}
use Rattle.tera_syntax_tree.specs.Tree.{Expr}
use Rattle.tera_syntax_tree.specs.Depth.{depth}
use Rattle.tera_syntax_tokens.specs.declared.token.Kind.{Kind}
use Rattle.tera_syntax_tokens.specs.declared.token.Kind.TheVariants as k
use Rattle.tera_syntax_tokens.specs.Input.{Input}
use Rattle.tera_syntax_expressions.specs.Grammar.{Operator, or, and, equal, not_equal, less, greater, less_or_equal, greater_or_equal, is_in, concat, add, subtract, multiply, divide, floor_divide, remainder, Dot, dot, optional_dot, Bracket, bracket, optional_bracket, Derives, quoted, tighter, choice, operation, not, not_in, minus, power, attribute, index, slice, int, is_true, is_false, nothing, name, of_loop, parentheses, array, map, comprehension, call, component, filter, test, not_test}
use Rattle.tera_syntax_expressions.specs.Expressions.{needs, gives, begins, goes_on}

-- No operator in this position binds more tightly than the level.
abbrev pub Stops : ℕ → Kind → Type 0
Stops l s = (needs s ≤ l) ⊎ (11 < needs s)

pub gives-below : (s : Kind) → gives s ≤ needs s
unfolding gives needs
gives-below s = elim s as (λ s. gives s ≤ needs s) [ k.If ↦ omega arith | _ ↦ omega arith ]

pub on-means : (floor have : ℕ) (s : Kind) → goes_on floor have s ≡ true → (floor ≤ gives s) × (needs s ≤ have)
on-means floor have s h = go (nat_le floor (gives s)) (nat_le (needs s) have) refl refl h
  where
    go : (a b : Bool) → nat_le floor (gives s) ≡ a → nat_le (needs s) have ≡ b → (a && b) ≡ true → (floor ≤ gives s) × (needs s ≤ have)
    go true true p q h = (grind (arith, common_steps, p), grind (arith, common_steps, q))
    go true false p q h = cc
    go false b p q h = cc

-- the form of two operands is one deeper than they are
pub operator-depth : {s : Kind} {form : Expr → Expr → Span → Expr} {l : ℕ} → Operator s form l → (x y : Expr) (at : Span) → depth (form x y at) ≡ suc (max (depth x) (depth y))
operator-depth or x y at = refl
operator-depth and x y at = refl
operator-depth equal x y at = refl
operator-depth not_equal x y at = refl
operator-depth less x y at = refl
operator-depth greater x y at = refl
operator-depth less_or_equal x y at = refl
operator-depth greater_or_equal x y at = refl
operator-depth is_in x y at = refl
operator-depth concat x y at = refl
operator-depth add x y at = refl
operator-depth subtract x y at = refl
operator-depth multiply x y at = refl
operator-depth divide x y at = refl
operator-depth floor_divide x y at = refl
operator-depth remainder x y at = refl

pub le-true : (a b : ℕ) → a ≤ b → nat_le a b ≡ true
le-true a b h = grind (arith, common_steps)

pub le-false : (a b : ℕ) → b < a → nat_le a b ≡ false
le-false a b h = grind (arith, common_steps)

pub and-false : (b : Bool) → (b && false) ≡ false
and-false true = refl
and-false false = refl

pub same-le : (l : ℕ) (s : Kind) → Stops l s → l < 11 → nat_le (needs s) (suc l) ≡ nat_le (needs s) l
same-le l s (inl h) lt = le-true (needs s) (suc l) (omega arith) ∙ sym (le-true (needs s) l h)
same-le l s (inr h) lt = le-false (needs s) (suc l) (omega arith) ∙ sym (le-false (needs s) l (omega arith))

pub between : (floor l : ℕ) (s : Kind) → Stops l s → l < 11 → goes_on floor (suc l) s ≡ goes_on floor l s
between floor l s h lt = ap (λ b. nat_le floor (gives s) && b) (same-le l s h lt)

pub closes : (have : ℕ) (s : Kind) → s ≡ k.RightParenthesis → have ≤ 11 → goes_on 0 have s ≡ false
unfolding needs gives
closes have s h le = let twelve : needs s ≡ 12 = ap needs h in ap (λ b. nat_le 0 (gives s) && b) (le-false (needs s) have (omega arith)) ∙ and-false _

pub on : (floor have : ℕ) (s : Kind) → floor ≤ gives s → needs s ≤ have → goes_on floor have s ≡ true
on floor have s f h = rw (le-true floor (gives s) f, le-true (needs s) have h) refl

pub off : (floor have : ℕ) (s : Kind) → (gives s < floor) ⊎ (have < needs s) → goes_on floor have s ≡ false
off floor have s h = grind (arith, common_steps)

pub is-no-end : {s : Kind} {form : Expr → Expr → Span → Expr} {l : ℕ} → Operator s form l → s ≡ k.End → ⊥
is-no-end or e = cc
is-no-end and e = cc
is-no-end equal e = cc
is-no-end not_equal e = cc
is-no-end less e = cc
is-no-end greater e = cc
is-no-end less_or_equal e = cc
is-no-end greater_or_equal e = cc
is-no-end is_in e = cc
is-no-end concat e = cc
is-no-end add e = cc
is-no-end subtract e = cc
is-no-end multiply e = cc
is-no-end divide e = cc
is-no-end floor_divide e = cc
is-no-end remainder e = cc

pub operator-needs : {s : Kind} {form : Expr → Expr → Span → Expr} {l : ℕ} → Operator s form l → (needs s ≡ l) × (gives s ≡ l) × (l < 8)
unfolding needs gives
operator-needs or = (refl, refl, omega arith)
operator-needs and = (refl, refl, omega arith)
operator-needs equal = (refl, refl, omega arith)
operator-needs not_equal = (refl, refl, omega arith)
operator-needs less = (refl, refl, omega arith)
operator-needs greater = (refl, refl, omega arith)
operator-needs less_or_equal = (refl, refl, omega arith)
operator-needs greater_or_equal = (refl, refl, omega arith)
operator-needs is_in = (refl, refl, omega arith)
operator-needs concat = (refl, refl, omega arith)
operator-needs add = (refl, refl, omega arith)
operator-needs subtract = (refl, refl, omega arith)
operator-needs multiply = (refl, refl, omega arith)
operator-needs divide = (refl, refl, omega arith)
operator-needs floor_divide = (refl, refl, omega arith)
operator-needs remainder = (refl, refl, omega arith)

pub dot-needs : {s : Kind} {optional : Bool} → Dot s optional → (needs s ≡ 11) × (gives s ≡ 11) × (s ≡ k.End → ⊥)
unfolding needs gives
dot-needs dot = (refl, refl, λ e. cc)
dot-needs optional_dot = (refl, refl, λ e. cc)

pub bracket-needs : {s : Kind} {optional : Bool} → Bracket s optional → (needs s ≡ 11) × (gives s ≡ 11) × (s ≡ k.End → ⊥)
unfolding needs gives
bracket-needs bracket = (refl, refl, λ e. cc)
bracket-needs optional_bracket = (refl, refl, λ e. cc)

pub needs-some : (s : Kind) → 0 < needs s
unfolding needs gives
needs-some s = elim s as (λ s. 0 < needs s) [ k.If ↦ omega arith | _ ↦ omega arith ]

pub not-three : (s : Kind) → 0 < (needs s - 3) + (3 - needs s)
unfolding needs gives
not-three s = elim s as (λ s. 0 < (needs s - 3) + (3 - needs s)) [ k.If ↦ omega arith | _ ↦ omega arith ]

pub not-eight : (s : Kind) → 0 < (needs s - 8) + (8 - needs s)
unfolding needs gives
not-eight s = elim s as (λ s. 0 < (needs s - 8) + (8 - needs s)) [ k.If ↦ omega arith | _ ↦ omega arith ]

pub not-nine : (s : Kind) → 0 < (needs s - 9) + (9 - needs s)
unfolding needs gives
not-nine s = elim s as (λ s. 0 < (needs s - 9) + (9 - needs s)) [ k.If ↦ omega arith | _ ↦ omega arith ]

pub stops-up : (l : ℕ) (s : Kind) → Stops l s → Stops (suc l) s
stops-up l s (inl h) = inl (omega arith)
stops-up l s (inr h) = inr h

pub ends-up : (l : ℕ) (s : Kind) → Stops l s → l < 11 → (gives s < suc l) ⊎ (suc l < needs s)
ends-up l s (inl h) lt = let e = gives-below s in inl (omega arith)
ends-up l s (inr h) lt = inr (omega arith)

pub ends : (l : ℕ) (s : Kind) → Stops l s → l < 11 → 0 < (needs s - l) + (l - needs s) → (gives s < l) ⊎ (l < needs s)
ends l s (inl h) lt ne = let e = gives-below s in inl (omega arith)
ends l s (inr h) lt ne = inr (omega arith)

pub eight-of-nine : (s : Kind) → Stops 9 s → Stops 8 s
eight-of-nine s (inl h) = let e = not-nine s in inl (omega arith)
eight-of-nine s (inr h) = inr h

-- the kinds that the lemmas below name
pub needed-kinds : (needs k.If ≡ 1) × (needs k.Not ≡ 4) × (needs k.Is ≡ 4) × (needs k.Bar ≡ 10) × (needs k.Power ≡ 10)
unfolding needs gives
needed-kinds = (refl, refl, refl, refl, refl)

pub given-kinds : (gives k.If ≡ 0) × (gives k.Not ≡ 4) × (gives k.Is ≡ 4) × (gives k.Bar ≡ 10) × (gives k.Power ≡ 9)
unfolding gives
given-kinds = (refl, refl, refl, refl, refl)

pub closing-kinds : (needs k.Else ≡ 12) × (needs k.RightParenthesis ≡ 12) × (needs k.RightBracket ≡ 12) × (needs k.Comma ≡ 12) × (needs k.End ≡ 12) × (needs k.Colon ≡ 12) × (needs k.RightBrace ≡ 12) × (needs k.For ≡ 12)
unfolding needs gives
closing-kinds = (refl, refl, refl, refl, refl, refl, refl, refl)

-- the level of a kind that is known
pub level-at : (level : Kind → ℕ) (s t : Kind) (n : ℕ) → s ≡ t → level t ≡ n → level s ≡ n
level-at level s t n h e = ap level h ∙ e

pub begin-kinds : (begins k.Not ≡ 3) × (begins k.Minus ≡ 8) × (begins k.Int ≡ 11) × (begins k.Name ≡ 11) × (begins k.LeftBracket ≡ 11) × (begins k.True ≡ 11) × (begins k.False ≡ 11) × (begins k.Nothing ≡ 11) × (begins k.Text ≡ 11) × (begins k.LeftBrace ≡ 11) × (begins k.Less ≡ 11)
unfolding begins
begin-kinds = (refl, refl, refl, refl, refl, refl, refl, refl, refl, refl, refl)

pub ends-bound : (s : Kind) → (s ≡ k.Colon) ⊎ (s ≡ k.RightBracket) → needs s ≡ 12
ends-bound s (inl h) = level-at needs s k.Colon 12 h closing-kinds.5
ends-bound s (inr h) = level-at needs s k.RightBracket 12 h closing-kinds.2

-- A condition or a bracket ends what a comprehension goes over.
pub ends-target : (s : Kind) → (s ≡ k.If) ⊎ (s ≡ k.RightBracket) → Stops 1 s × ((gives s < 1) ⊎ (1 < needs s))
ends-target s (inl h) = let n = level-at needs s k.If 1 h needed-kinds.0 in let g = level-at gives s k.If 0 h given-kinds.0 in (inl (omega arith), inl (omega arith))
ends-target s (inr h) = let n = level-at needs s k.RightBracket 12 h closing-kinds.2 in (inr (omega arith), inr (omega arith))

pub at-most : {l : ℕ} {x : Expr} {i j : Input} → Derives l x i j → l ≤ 11
at-most (tighter d) = let p = at-most d in omega arith
at-most (choice d h f g q) = omega arith
at-most (operation w d h f) = let p = operator-needs w in omega arith
at-most (not h d) = omega arith
at-most (not_in d h g f) = omega arith
at-most (minus h d) = omega arith
at-most (power d h f) = omega arith
at-most (attribute w d h g) = omega arith
at-most (index w d h f g) = omega arith
at-most (map h d g) = omega arith
at-most (slice w d h f g q t u) = omega arith
at-most (int h e) = omega arith
at-most (quoted h e) = omega arith
at-most (is_true h) = omega arith
at-most (is_false h) = omega arith
at-most (nothing h) = omega arith
at-most (name h e g) = omega arith
at-most (call h e d g) = omega arith
at-most (component h w d g) = omega arith
at-most (filter d h g q) = omega arith
at-most (test d h g q) = omega arith
at-most (not_test d h f g q) = omega arith
at-most (of_loop h e) = omega arith
at-most (parentheses h d g) = omega arith
at-most (array h d g) = omega arith
at-most (comprehension h d f c t o g) = omega arith
