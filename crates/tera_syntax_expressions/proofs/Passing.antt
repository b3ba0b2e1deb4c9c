-- Filters and tests: what is read is derived, and how what is derived is read.
use Rattle.std.proofs.Common.{◌≡◌, ℕ, suc, ◌≤◌, max, true, Some, refl, sym, ◌∙◌, ap, subst, arith}
use Rattle.tera_errors.specs.Site.{Name}
use Rattle.tera_errors.specs.declared.span.Span.{Span}
use Rattle.tera_syntax_tree.specs.Tree.{Expr, Not, Filter, Test, Arguments, NoArguments}
use Rattle.tera_syntax_tree.specs.Depth.{depth, arguments_depth}
use Rattle.tera_syntax_tokens.specs.declared.token.Kind.TheVariants as k
use Rattle.tera_syntax_tokens.specs.Input.{Input, Parser, same, kind, text, next, left, span, is_word}
use Rattle.tera_syntax_expressions.specs.Arguments.{is_test_name}
use Rattle.tera_syntax_expressions.specs.Grammar.{DerivesGiven, not_given, given}
use Rattle.tera_syntax_expressions.specs.Expressions as r
use Rattle.tera_syntax_expressions.specs.Expressions.{Deep, deep, node}
use Rattle.tera_syntax_expressions.proofs.Steps.{and_then-some, chosen, same-is, some-pair, either, unlike, alike, unlike-is, test-name, node-got}
use Rattle.tera_syntax_expressions.proofs.Forms.{deep-node}
use Rattle.tera_syntax_expressions.proofs.ArgumentRows.{Reads, arguments-got}

-- a form of a value, a name and arguments, which is one deeper than these
abbrev pub Deepens : (Expr → Name → Arguments → Span → Expr) → Type 0
Deepens form = (x : Expr) (n : Name) (all : Arguments) (at : Span) → depth (form x n all at) ≡ suc (max (depth x) (arguments_depth all))

module _ (limit : ℕ) (part : ℕ → Parser Deep) where
  pub given-got : Reads part → (i j : Input) (z : Arguments × ℕ) → r.optional_arguments limit part i ≡ Some (z, j) → DerivesGiven z.0 i j × (z.1 ≡ arguments_depth z.0)
  unfolding r.optional_arguments
  given-got reads i j z h =
      either (chosen (same k.LeftParenthesis (kind i)) (r.arguments_from limit part (left (next i)) NoArguments 0 (next i)) (Some ((NoArguments, 0), i)) (Some (z, j)) h)
      (λ q. let g = arguments-got limit part reads (left (next i)) NoArguments 0 (next i) j z refl q.1 in
      (subst (λ j. DerivesGiven z.0 i j) (sym g.3) (given (same-is k.LeftParenthesis (kind i) q.0) g.1 g.2), g.4))
      (λ q. let e = some-pair ((NoArguments, 0), i) (z, j) q.1 in
      let P : Arguments × ℕ → Input → Type 0 = λ z j. DerivesGiven z.0 i j × (z.1 ≡ arguments_depth z.0) in
      subst (λ w. P w j) e.0 (subst (λ w. P (NoArguments, 0) w) e.1 (not_given (unlike-is k.LeftParenthesis (kind i) q.0), refl)))

  pub passed-got : Reads part → (P : Deep → Input → Type 0) (form : Expr → Name → Arguments → Span → Expr) → Deepens form → (from : ℕ) (i j : Input) (v : Expr) (y : Deep)
      → ((all : Arguments) (j : Input) → DerivesGiven all (next i) j → depth (form v (text i) all (span from j)) ≤ limit → P (deep (form v (text i) all (span from j))) j)
      → r.application limit part form from (deep v) i ≡ Some (y, j) → P y j
  unfolding r.application
  passed-got reads P form deeper from i j v y build h =
      let q = and_then-some (r.optional_arguments limit part (next i)) (λ g. λ j. node limit (max (depth v) g.1) (form v (text i) g.0 (span from j)) j) (y, j) h in
      let g = given-got reads (next i) q.1 q.0 q.2 in
      let e = g.1 in
      let d = deeper v (text i) q.0.0 (span from q.1) in
      node-got P limit (max (depth v) q.0.1) (form v (text i) q.0.0 (span from q.1)) q.1 j y q.3 (omega (arith, e, d)) (build q.0.0 q.1 g.0)

  pub given-none : (i : Input) → (kind i ≡ k.LeftParenthesis → ⊥) → r.optional_arguments limit part i ≡ Some ((NoArguments, 0), i)
  unfolding r.optional_arguments
  given-none i h = rw (unlike k.LeftParenthesis (kind i) h) refl

  pub given-some : (i : Input) → kind i ≡ k.LeftParenthesis → r.optional_arguments limit part i ≡ r.arguments_from limit part (left (next i)) NoArguments 0 (next i)
  unfolding r.optional_arguments
  given-some i h = rw (alike k.LeftParenthesis (kind i) h) refl

  passed-is : (form : Expr → Name → Arguments → Span → Expr) → Deepens form → (from : ℕ) (x : Expr) (all : Arguments) (i j : Input)
      → r.optional_arguments limit part (next i) ≡ Some ((all, arguments_depth all), j) → depth (form x (text i) all (span from j)) ≤ limit
      → r.application limit part form from (deep x) i ≡ Some (deep (form x (text i) all (span from j)), j)
  unfolding r.application
  passed-is form deeper from x all i j h le =
      let d = deeper x (text i) all (span from j) in
      rw h (deep-node limit (max (depth x) (arguments_depth all)) (form x (text i) all (span from j)) j (omega arith) d)

  pub filter-is : (from : ℕ) (x : Expr) (all : Arguments) (a j : Input) → kind a ≡ k.Bar → is_word (kind (next a)) ≡ true → r.optional_arguments limit part (next (next a)) ≡ Some ((all, arguments_depth all), j)
      → depth (Filter x (text (next a)) all (span from j)) ≤ limit → r.operation limit part from (deep x) a ≡ Some (deep (Filter x (text (next a)) all (span from j)), j)
  unfolding r.operation r.filter
  filter-is from x all a j h g q le =
      ap (λ s. r.operation_by limit part from (deep x) s a) h ∙ rw g (passed-is Filter (λ _ _ _ _. refl) from x all (next a) j q le)

  named-is : (from : ℕ) (x : Expr) (all : Arguments) (i j : Input) → is_test_name (kind i) ≡ true → r.optional_arguments limit part (next i) ≡ Some ((all, arguments_depth all), j)
      → depth (Test x (text i) all (span from j)) ≤ limit → r.test_by_name limit part from (deep x) i ≡ Some (deep (Test x (text i) all (span from j)), j)
  unfolding r.test_by_name
  named-is from x all i j g q le = rw g (passed-is Test (λ _ _ _ _. refl) from x all i j q le)

  pub test-is : (from : ℕ) (x : Expr) (all : Arguments) (a j : Input) → kind a ≡ k.Is → is_test_name (kind (next a)) ≡ true → r.optional_arguments limit part (next (next a)) ≡ Some ((all, arguments_depth all), j)
      → depth (Test x (text (next a)) all (span from j)) ≤ limit → r.operation limit part from (deep x) a ≡ Some (deep (Test x (text (next a)) all (span from j)), j)
  unfolding r.operation r.tested
  test-is from x all a j h g q le =
      ap (λ s. r.operation_by limit part from (deep x) s a) h ∙ rw (test-name (kind (next a)) g).1 (named-is from x all (next a) j g q le)

  pub not_test-is : (from : ℕ) (x : Expr) (all : Arguments) (a j : Input) → kind a ≡ k.Is → kind (next a) ≡ k.Not → is_test_name (kind (next (next a))) ≡ true
      → r.optional_arguments limit part (next (next (next a))) ≡ Some ((all, arguments_depth all), j) → depth (Not (Test x (text (next (next a))) all (span from j)) (span from j)) ≤ limit
      → r.operation limit part from (deep x) a ≡ Some (deep (Not (Test x (text (next (next a))) all (span from j)) (span from j)), j)
  unfolding r.operation r.tested
  not_test-is from x all a j h f g q le =
      let t : Expr = Test x (text (next (next a))) all (span from j) in
      ap (λ s. r.operation_by limit part from (deep x) s a) h
      ∙ rw (alike k.Not (kind (next a)) f, named-is from x all (next (next a)) j g q (omega arith)) (deep-node limit (depth t) (Not t (span from j)) j (omega arith) refl)
