-- What is read is derived.
use Rattle.std.proofs.Common.{◌≡◌, ℕ, zero, suc, ◌≤◌, max, ℤ, List, [], ◌∷◌, Bool, true, false, nat_le, Option, Some, None, option_map, if◌then◌else◌, refl, sym, subst, arith}
use Rattle.std.proofs.lemmas.Grind.{common_steps}
use Rattle.tera_errors.specs.Site as site
use Rattle.tera_errors.specs.declared.span.Span.{Span}
use Rattle.tera_syntax_tree.specs.declared.expression.BinaryOperator.TheVariants as binary
use Rattle.tera_syntax_tree.specs.Tree.{Expr, Nothing, Boolean, Integer, Text, Name, Attribute, Index, Slice, Optional, Absent, Present, Not, Negate, Binary, Ternary, Array, Items, NoItems, Map, Comprehension, Filter, Test, Key, Entries, NoEntries, NoArguments}
use Rattle.tera_syntax_tree.specs.Depth.{depth, items_depth, entries_depth, optional_depth}
use Rattle.tera_syntax_tokens.specs.declared.token.Kind.{Kind}
use Rattle.tera_syntax_tokens.specs.declared.token.Kind.TheVariants as k
use Rattle.tera_syntax_tokens.specs.Input.{Input, Parser, and_then, same, kind, start, text, next, left, span, expect, is_word}
use Rattle.tera_syntax_tokens.specs.Literal.{integer, literal}
use Rattle.tera_syntax_expressions.specs.Loops.{loop_name, behind_loop}
use Rattle.tera_syntax_expressions.specs.Grammar.{Operator, or, and, equal, not_equal, less, greater, less_or_equal, greater_or_equal, is_in, concat, add, subtract, multiply, divide, floor_divide, remainder, Dot, dot, optional_dot, Bracket, bracket, optional_bracket, Derives, quoted, tighter, choice, operation, not, not_in, minus, power, attribute, index, slice, DerivesPart, absent, present, DerivesStep, no_step, step, int, is_true, is_false, nothing, name, of_loop, parentheses, array, map, DerivesItem, comprehension, DerivesCondition, no_condition, condition, call, filter, test, not_test}
use Rattle.tera_syntax_expressions.specs.Headings.{Calls, calls}
use Rattle.tera_syntax_expressions.specs.Arguments.{is_call, call_form, is_test_name}
use Rattle.tera_syntax_expressions.specs.Expressions as r
use Rattle.tera_syntax_expressions.specs.Expressions.{Deep, deep, needs, gives, begins, goes_on, floor_in, opened, climb, level, level_with, expr, head, node, prefix_form, infix_form, applied, behind_dots, join_items, one_item, join_entries}
use Rattle.tera_syntax_expressions.proofs.GoingOn.{gives-below, on-means, operator-depth, operator-needs}
use Rattle.tera_syntax_expressions.proofs.Calls.{calls-got}
use Rattle.tera_syntax_expressions.proofs.ArgumentRows.{Reads, arguments-got, call-depth}
use Rattle.tera_syntax_expressions.proofs.Passing.{passed-got}
use Rattle.tera_syntax_expressions.proofs.Gathered.{GotItems, got_items, no-items, one-item, more-items, GotEntries, got_entries, no-more-entries, last-entry, an-entry-more, Keyed, entry_key-got, item-at}
use Rattle.tera_syntax_expressions.proofs.AttributeRows.{component-got}
use Rattle.tera_syntax_expressions.proofs.Steps.{and_then-some, guard, chosen, same-is, expect-some, either, at, same-value, node-got}

data Got : ℕ → ℕ → Deep → Input → Input → Type 0 where
  got : {limit l : ℕ} {x : Expr} {i j : Input} → depth x ≤ limit → Derives l x i j → Got limit l (deep x) i j

-- a reader of parts gives what is derived
abbrev Sound : ℕ → (ℕ → Parser Deep) → Type 0
Sound b part = (l : ℕ) (i j : Input) (x : Deep) → l ≤ 11 → part l i ≡ Some (x, j) → Got b l x i j

down : (m l : ℕ) {x : Expr} {i j : Input} → l ≤ m → Derives m x i j → Derives l x i j
down zero l {x} {i} {j} h d = let e : 0 ≡ l = omega arith in subst (λ n. Derives n x i j) e d
down (suc m) l {x} {i} {j} h d = go (λ e. down m l e (tighter d)) (nat_le l m) refl
  where
    go : (l ≤ m → Derives l x i j) → (b : Bool) → nat_le l m ≡ b → Derives l x i j
    go again true e = again (grind (arith, common_steps, e))
    go again false e = let f : suc m ≡ l = grind (arith, common_steps, e) in subst (λ n. Derives n x i j) f d

-- the parentheses that are open, from the last on, between two positions
data Opened : List ℕ → Input → Input → Type 0 where
  here : {i : Input} → Opened [] i i
  paren : {os : List ℕ} {i p : Input} → Opened os i p → kind p ≡ k.LeftParenthesis → Opened (start p ∷ os) i (next p)

opened-got : (n : ℕ) (os os' : List ℕ) (i p j : Input) → Opened os i p → opened n os p ≡ Some (os', j) → Opened os' i j
unfolding opened
opened-got zero os os' i p j w h = same-value (λ os j. Opened os i j) os os' p j h w
opened-got (suc n) os os' i p j w h = either (chosen (same k.LeftParenthesis (kind p)) (opened n (start p ∷ os) (next p)) (Some (os, p)) (Some (os', j)) h)
    (λ q. opened-got n (start p ∷ os) os' i (next p) j (paren w (same-is k.LeftParenthesis (kind p) q.0)) q.1)
    (λ q. same-value (λ os j. Opened os i j) os os' p j q.1 w)

module _ (limit b : ℕ) (part : ℕ → Parser Deep) (sound : Sound b part) where
  reads : Reads part
  reads i j x h = go (sound 0 i j x (omega arith) h)
    where
      go : {y : Deep} {a : Input} → Got b 0 y i a → Derives 0 y.expr i a × (y.depth ≡ depth y.expr)
      go (got _ d) = (d, refl)

  prefixed-got : (l : ℕ) (form : Expr → Span → Expr) → ((x : Expr) (at : Span) → depth (form x at) ≡ suc (depth x)) → (i j : Input) (y : Deep) → l ≤ 11
      → ((x : Expr) (j : Input) → Derives l x (next i) j → Derives l (form x (span (start i) j)) i j) → prefix_form limit part l form i ≡ Some (y, j) → Got limit l y i j
  unfolding prefix_form
  prefixed-got l form deeper i j y le build h =
      let q = and_then-some (part l (next i)) (λ x. λ j. node limit x.depth (form x.expr (span (start i) j)) j) (y, j) h in
      go (sound l (next i) q.1 q.0 le q.2) q.3
    where
      go : {x : Deep} {a : Input} → Got b l x (next i) a → node limit x.depth (form x.expr (span (start i) a)) a ≡ Some (y, j) → Got limit l y i j
      go (got {x = v} {j = a} _ d) n = node-got (λ y j. Got limit l y i j) limit (depth v) (form v (span (start i) a)) a j y n (deeper v (span (start i) a)) (λ le. got le (build v a d))

  infixed-got : (m n l : ℕ) (form : Expr → Expr → Span → Expr) → ((x y : Expr) (at : Span) → depth (form x y at) ≡ suc (max (depth x) (depth y))) → (p i j : Input) (x y : Deep) → m ≤ 11
      → ((v w : Expr) (j : Input) → Derives n v p i → Derives m w (next i) j → Derives l (form v w (span (start p) j)) p j)
      → Got limit n x p i → infix_form limit part m form (start p) x i ≡ Some (y, j) → Got limit l y p j
  unfolding infix_form
  infixed-got m n l form deeper p i j x y le build (got {x = v} _ d) h =
      let q = and_then-some (part m (next i)) (λ y. λ j. node limit (max (depth v) y.depth) (form v y.expr (span (start p) j)) j) (y, j) h in
      go (sound m (next i) q.1 q.0 le q.2) q.3
    where
      go : {z : Deep} {a : Input} → Got b m z (next i) a → node limit (max (depth v) z.depth) (form v z.expr (span (start p) a)) a ≡ Some (y, j) → Got limit l y p j
      go (got {x = w} {j = a} _ f) n = node-got (λ y j. Got limit l y p j) limit (max (depth v) (depth w)) (form v w (span (start p) a)) a j y n (deeper v w (span (start p) a)) (λ le. got le (build v w a d f))

  power-got : (have : ℕ) (p i j : Input) (x y : Deep) → 10 ≤ have → kind i ≡ k.Power → Got limit have x p i → applied limit part 8 binary.Power (start p) x i ≡ Some (y, j) → Got limit 9 y p j
  unfolding applied
  power-got have p i j x y n h g hh = infixed-got 8 have 9 (Binary binary.Power) (λ _ _ _. refl) p i j x y (omega arith) (λ _ _ _ d f. power (down have 10 n d) h f) g hh

  choice-got : (have : ℕ) (p i j : Input) (x y : Deep) → 1 ≤ have → kind i ≡ k.If → Got limit have x p i → r.choice limit part (start p) x i ≡ Some (y, j) → Got limit 0 y p j
  unfolding r.choice r.other
  choice-got have p i j x y le h (got {x = v} _ d) hh =
      let q = and_then-some (part 1 (next i)) (λ y. λ b. and_then (expect k.Else b) (λ _. r.other limit part (start p) (deep v) y)) (y, j) hh in
      let u = and_then-some (expect k.Else q.1) (λ _. r.other limit part (start p) (deep v) q.0) (y, j) q.3 in
      let w = expect-some k.Else q.1 u.1 u.0 u.2 in
      let t = and_then-some (part 0 u.1) (λ z. λ j. node limit (max (depth v) (max q.0.depth z.depth)) (Ternary v q.0.expr z.expr (span (start p) j)) j) (y, j) u.3 in
      go (sound 1 (next i) q.1 q.0 (omega arith) q.2) w.0 w.1 (sound 0 u.1 t.1 t.0 (omega arith) t.2) t.3
    where
      go : {y' z : Deep} {c c' a : Input} → Got b 1 y' (next i) c → kind c ≡ k.Else → c' ≡ next c → Got b 0 z c' a
          → node limit (max (depth v) (max y'.depth z.depth)) (Ternary v y'.expr z.expr (span (start p) a)) a ≡ Some (y, j) → Got limit 0 y p j
      go (got {x = e} _ f) g eq (got {x = o} {j = a} _ q) n =
          node-got (λ y j. Got limit 0 y p j) limit (max (depth v) (max (depth e) (depth o))) (Ternary v e o (span (start p) a)) a j y n refl
          (λ ok. got ok (choice (down have 1 le d) h f g (subst (λ z. Derives 0 o z a) eq q)))

  attribute-got : {s : Kind} {optional : Bool} → Dot s optional → (p i j : Input) (x y : Deep) → kind i ≡ s → Got limit 11 x p i → r.attribute limit part optional (start p) x i ≡ Some (y, j) → Got limit 11 y p j
  unfolding r.attribute
  attribute-got {s} {optional} w p i j x y h (got {x = v} _ d) hh =
      let q = guard (is_word (kind (next i))) (node limit (depth v) (Attribute v (text (next i)) optional (span (start p) (next (next i)))) (next (next i))) (y, j) hh in
      node-got (λ y j. Got limit 11 y p j) limit (depth v) (Attribute v (text (next i)) optional (span (start p) (next (next i)))) (next (next i)) j y q.1 refl (λ ok. got ok (attribute w d h q.0))

  part-got : (i j : Input) (z : Optional × ℕ) → r.part limit part i ≡ Some (z, j) → DerivesPart z.0 i j × (z.1 ≡ optional_depth z.0)
  unfolding r.part
  part-got i j z hh =
      either (chosen (same k.Colon (kind i)) (Some ((Absent, 0), i)) (if same k.RightBracket (kind i) then Some ((Absent, 0), i) else and_then (part 0 i) written) (Some (z, j)) hh)
      (λ q. empty q.1)
      (λ q. either (chosen (same k.RightBracket (kind i)) (Some ((Absent, 0), i)) (and_then (part 0 i) written) (Some (z, j)) q.1)
      (λ q. empty q.1)
      (λ q. let t = and_then-some (part 0 i) written (z, j) q.1 in go (sound 0 i t.1 t.0 (omega arith) t.2) t.3))
    where
      written : Deep → Parser (Optional × ℕ)
      written x j = Some ((Present x.expr, x.depth), j)

      P : Optional × ℕ → Input → Type 0
      P z j = DerivesPart z.0 i j × (z.1 ≡ optional_depth z.0)

      empty : at (Absent, 0) i ≡ at z j → P z j
      empty h = same-value P (Absent, 0) z i j h (absent, refl)

      go : {x : Deep} {a : Input} → Got b 0 x i a → written x a ≡ Some (z, j) → P z j
      go (got {x = v} {j = a} _ d) h = same-value P (Present v, depth v) z a j h (present d, refl)

  step-got : (i j : Input) (z : Optional × ℕ) → r.step limit part i ≡ Some (z, j) → DerivesStep z.0 i j × (z.1 ≡ optional_depth z.0)
  unfolding r.step
  step-got i j z hh =
      either (chosen (same k.Colon (kind i)) (r.part limit part (next i)) (Some ((Absent, 0), i)) (Some (z, j)) hh)
      (λ q. let t = part-got (next i) j z q.1 in (step (same-is k.Colon (kind i) q.0) t.0, t.1))
      (λ q. same-value (λ (z : Optional × ℕ) j. DerivesStep z.0 i j × (z.1 ≡ optional_depth z.0)) (Absent, 0) z i j q.1 (no_step, refl))

  index-at-got : {s : Kind} {optional : Bool} → Bracket s optional → (p i a j : Input) (v : Expr) (y : Deep) (o : Optional) (d : ℕ) → kind i ≡ s → Derives 11 v p i → DerivesPart o (next i) a → d ≡ optional_depth o → kind a ≡ k.RightBracket
      → r.index_at limit part optional (start p) (deep v) o d a ≡ Some (y, j) → Got limit 11 y p j
  unfolding r.index_at
  index-at-got w p i a j v y Absent d h dv f e g hh = cc
  index-at-got {s} {optional} w p i a j v y (Present x) d h dv (present f) e g hh =
      node-got (λ y j. Got limit 11 y p j) limit (max (depth v) d) (Index v x optional (span (start p) (next a))) (next a) j y hh (omega (arith, e)) (λ ok. got ok (index w dv h f g))

  slice-got : {s : Kind} {optional : Bool} → Bracket s optional → (p i a j : Input) (v : Expr) (y : Deep) (z : Optional × ℕ) → kind i ≡ s → Derives 11 v p i → DerivesPart z.0 (next i) a → z.1 ≡ optional_depth z.0
      → r.slice limit part optional (start p) (deep v) z a ≡ Some (y, j) → Got limit 11 y p j
  unfolding r.slice r.slice_made
  slice-got {s} {optional} br p i a j v y z h dv f e hh =
      let q = and_then-some (expect k.Colon a) (λ _. λ j. and_then (r.part limit part j) bounded) (y, j) hh in
      let u = expect-some k.Colon a q.1 q.0 q.2 in
      let t = and_then-some (r.part limit part q.1) bounded (y, j) q.3 in
      let st = and_then-some (r.step limit part t.1) (made t.0) (y, j) t.3 in
      let m = and_then-some (expect k.RightBracket st.1) (λ _. λ j. node limit (max (depth v) (max z.1 (max t.0.1 st.0.1))) (Slice v z.0 t.0.0 st.0.0 optional (span (start p) j)) j) (y, j) st.3 in
      let n = expect-some k.RightBracket st.1 m.1 m.0 m.2 in
      let to = part-got q.1 t.1 t.0 t.2 in
      let by = step-got t.1 st.1 st.0 st.2 in
      go u.1 u.0 n.1 n.0 t.0 st.0 to.1 by.1 to.0 by.0 m.3
    where
      made : Optional × ℕ → Optional × ℕ → Parser Deep
      made q s = r.slice_made limit part optional (start p) (deep v) z.0 q.0 s.0 (max z.1 (max q.1 s.1))

      bounded : Optional × ℕ → Parser Deep
      bounded q j = and_then (r.step limit part j) (made q)

      go : {b' c d d' : Input} → b' ≡ next a → kind a ≡ k.Colon → d' ≡ next d → kind d ≡ k.RightBracket → (to by : Optional × ℕ) → to.1 ≡ optional_depth to.0 → by.1 ≡ optional_depth by.0
          → DerivesPart to.0 b' c → DerivesStep by.0 c d
          → node limit (max (depth v) (max z.1 (max to.1 by.1))) (Slice v z.0 to.0 by.0 optional (span (start p) d')) d' ≡ Some (y, j) → Got limit 11 y p j
      go {c = c} {d = d} {d' = d'} e1 c1 e2 c2 to by g1 g2 f1 f2 nn =
          node-got (λ y j. Got limit 11 y p j) limit (max (depth v) (max z.1 (max to.1 by.1))) (Slice v z.0 to.0 by.0 optional (span (start p) d')) d' j y nn (omega (arith, e, g1, g2))
          (λ ok. let P : Input → Type 0 = λ d'. depth (Slice v z.0 to.0 by.0 optional (span (start p) d')) ≤ limit → Got limit 11 (deep (Slice v z.0 to.0 by.0 optional (span (start p) d'))) p d' in
          subst P (sym e2) (λ ok. got ok (slice br dv h f c1 (subst (λ b. DerivesPart to.0 b c) e1 f1) f2 c2)) ok)

  subscript-got : {s : Kind} {optional : Bool} → Bracket s optional → (p i j : Input) (x y : Deep) → kind i ≡ s → Got limit 11 x p i → r.subscript limit part optional (start p) x i ≡ Some (y, j) → Got limit 11 y p j
  unfolding r.subscript
  subscript-got {s} {optional} w p i j x y h (got {x = v} _ d) hh =
      let q = and_then-some (r.part limit part (next i)) (r.subscript_with limit part optional (start p) (deep v)) (y, j) hh in
      let f = part-got (next i) q.1 q.0 q.2 in
      either (chosen (same k.RightBracket (kind q.1)) (r.index_at limit part optional (start p) (deep v) q.0.0 q.0.1 q.1) (r.slice limit part optional (start p) (deep v) q.0 q.1) (Some (y, j)) q.3)
      (λ t. index-at-got w p i q.1 j v y q.0.0 q.0.1 h d f.0 f.1 (same-is k.RightBracket (kind q.1) t.0) t.1)
      (λ t. slice-got w p i q.1 j v y q.0 h d f.0 f.1 t.1)

  in-got : (n : ℕ) (p i j : Input) (x y : Deep) → Got limit n x p i → applied limit part 5 binary.In (start p) x (next i) ≡ Some (y, j) → kind (next i) ≡ k.In → kind i ≡ k.Not → 4 ≤ n
      → (z : Deep) (l : Input) → node limit y.depth (Not y.expr (span (start p) j)) j ≡ Some (z, l) → Got limit 4 z p l
  unfolding applied infix_form
  in-got n p i j x y (got {x = v} _ d) h g nk le z l nn =
      let q = and_then-some (part 5 (next (next i))) (λ y. λ j. node limit (max (depth v) y.depth) (Binary binary.In v y.expr (span (start p) j)) j) (y, j) h in
      go (sound 5 (next (next i)) q.1 q.0 (omega arith) q.2) q.3
    where
      go : {u : Deep} {a : Input} → Got b 5 u (next (next i)) a → node limit (max (depth v) u.depth) (Binary binary.In v u.expr (span (start p) a)) a ≡ Some (y, j) → Got limit 4 z p l
      go (got {x = w} {j = a} _ f) n1 =
          let P : Deep → Input → Type 0 = λ y j. node limit y.depth (Not y.expr (span (start p) j)) j ≡ Some (z, l) → Got limit 4 z p l in
          node-got P limit (max (depth v) (depth w)) (Binary binary.In v w (span (start p) a)) a j y n1 refl
          (λ _ n2. node-got (λ y j. Got limit 4 y p j) limit (depth (Binary binary.In v w (span (start p) a))) (Not (Binary binary.In v w (span (start p) a)) (span (start p) a)) a l z n2
          refl (λ ok. got ok (not_in (down n 4 le d) nk g f))) nn

  not_in-got : (have : ℕ) (p i j : Input) (x y : Deep) → 4 ≤ have → kind i ≡ k.Not → Got limit have x p i → r.not_in limit part (start p) x i ≡ Some (y, j) → Got limit 4 y p j
  unfolding r.not_in
  not_in-got have p i j x y le h g hh =
      let a = guard (same k.In (kind (next i))) (and_then (applied limit part 5 binary.In (start p) x (next i)) (λ y. λ j. node limit y.depth (Not y.expr (span (start p) j)) j)) (y, j) hh in
      let q = and_then-some (applied limit part 5 binary.In (start p) x (next i)) (λ y. λ j. node limit y.depth (Not y.expr (span (start p) j)) j) (y, j) a.1 in
      in-got have p i q.1 x q.0 g q.2 (same-is k.In (kind (next i)) a.0) h le y j q.3

  filter-got : (have : ℕ) (p i j : Input) (x y : Deep) → 10 ≤ have → kind i ≡ k.Bar → Got limit have x p i → r.filter limit part (start p) x i ≡ Some (y, j) → Got limit 10 y p j
  unfolding r.filter
  filter-got have p i j x y n h (got {x = v} _ d) hh =
      let q = guard (is_word (kind (next i))) (r.application limit part Filter (start p) (deep v) (next i)) (y, j) hh in
      passed-got limit part reads (λ y j. Got limit 10 y p j) Filter (λ _ _ _ _. refl) (start p) (next i) j v y (λ _ _ w ok. got ok (filter (down have 10 n d) h q.0 w)) q.1

  test-got : (have : ℕ) (p i j : Input) (x y : Deep) → 4 ≤ have → kind i ≡ k.Is → Got limit have x p i → r.tested limit part (start p) x i ≡ Some (y, j) → Got limit 4 y p j
  unfolding r.tested r.test_by_name
  test-got have p i j x y n h (got {x = v} _ d) hh =
      either (chosen (same k.Not (kind o)) (and_then (r.test_by_name limit part (start p) (deep v) (next o)) denied) (r.test_by_name limit part (start p) (deep v) o) (Some (y, j)) hh)
      (λ q. let t = and_then-some (r.test_by_name limit part (start p) (deep v) (next o)) denied (y, j) q.1 in
      let u = guard (is_test_name (kind (next o))) (r.application limit part Test (start p) (deep v) (next o)) (t.0, t.1) t.2 in
      let P : Deep → Input → Type 0 = λ z a. denied z a ≡ Some (y, j) → Got limit 4 y p j in
      passed-got limit part reads P Test (λ _ _ _ _. refl) (start p) (next o) t.1 v t.0
      (λ all a w _ m. let z : Expr = Test v (text (next o)) all (span (start p) a) in
      node-got (λ y j. Got limit 4 y p j) limit (depth z) (Not z (span (start p) a)) a j y m refl
      (λ ok. got ok (not_test (down have 4 n d) h (same-is k.Not (kind o) q.0) u.0 w))) u.1 t.3)
      (λ q. let u = guard (is_test_name (kind o)) (r.application limit part Test (start p) (deep v) o) (y, j) q.1 in
      passed-got limit part reads (λ y j. Got limit 4 y p j) Test (λ _ _ _ _. refl) (start p) o j v y (λ _ _ w ok. got ok (test (down have 4 n d) h u.0 w)) u.1)
    where
      o : Input
      o = next i

      denied : Deep → Parser Deep
      denied z a = node limit z.depth (Not z.expr (span (start p) a)) a

  lowered : (m l : ℕ) (x : Deep) (i j : Input) → l ≤ m → Got limit m x i j → Got limit l x i j
  lowered m l x i j le (got ok d) = got ok (down m l le d)

  operation-by-got : (have : ℕ) (p i j : Input) (x y : Deep) → have ≤ 11 → Got limit have x p i → (s : Kind) → kind i ≡ s → needs s ≤ have → r.operation_by limit part (start p) x s i ≡ Some (y, j) → Got limit (gives s) y p j
  unfolding needs gives applied
  operation-by-got have p i j x y le g = behind
    where
      high : 11 ≤ have → Got limit 11 x p i
      high n = lowered have 11 x p i n g

      grouped : {s : Kind} {form : Expr → Expr → Span → Expr} {l : ℕ} → Operator s form l → kind i ≡ s → l ≤ have → infix_form limit part (suc l) form (start p) x i ≡ Some (y, j) → Got limit l y p j
      grouped {form = form} {l = l} w h n hh =
          let v = operator-needs w in
          infixed-got (suc l) have l form (operator-depth w) p i j x y (omega arith) (λ _ _ _ d f. operation w (down have l n d) h f) g hh

      behind : (s : Kind) → kind i ≡ s → needs s ≤ have → r.operation_by limit part (start p) x s i ≡ Some (y, j) → Got limit (gives s) y p j
      behind k.If h n hh = choice-got have p i j x y n h g hh
      behind k.Or h n hh = grouped or h n hh
      behind k.And h n hh = grouped and h n hh
      behind k.Equal h n hh = grouped equal h n hh
      behind k.NotEqual h n hh = grouped not_equal h n hh
      behind k.Less h n hh = grouped less h n hh
      behind k.Greater h n hh = grouped greater h n hh
      behind k.LessOrEqual h n hh = grouped less_or_equal h n hh
      behind k.GreaterOrEqual h n hh = grouped greater_or_equal h n hh
      behind k.In h n hh = grouped is_in h n hh
      behind k.Tilde h n hh = grouped concat h n hh
      behind k.Plus h n hh = grouped add h n hh
      behind k.Minus h n hh = grouped subtract h n hh
      behind k.Star h n hh = grouped multiply h n hh
      behind k.Slash h n hh = grouped divide h n hh
      behind k.FloorSlash h n hh = grouped floor_divide h n hh
      behind k.Percent h n hh = grouped remainder h n hh
      behind k.Power h n hh = power-got have p i j x y n h g hh
      behind k.Not h n hh = not_in-got have p i j x y n h g hh
      behind k.Is h n hh = test-got have p i j x y n h g hh
      behind k.Bar h n hh = filter-got have p i j x y n h g hh
      behind k.Dot h n hh = attribute-got dot p i j x y h (high n) hh
      behind k.OptionalDot h n hh = attribute-got optional_dot p i j x y h (high n) hh
      behind k.LeftBracket h n hh = subscript-got bracket p i j x y h (high n) hh
      behind k.OptionalBracket h n hh = subscript-got optional_bracket p i j x y h (high n) hh
      behind _ h n hh = absurd (omega (arith, le))

  operation-got : (have : ℕ) (p i j : Input) (x y : Deep) → needs (kind i) ≤ have → have ≤ 11 → Got limit have x p i → r.operation limit part (start p) x i ≡ Some (y, j) → Got limit (gives (kind i)) y p j
  unfolding r.operation
  operation-got have p i j x y n b g hh = operation-by-got have p i j x y b g (kind i) refl n hh

  floor-small : (os : List ℕ) (floor : ℕ) → floor ≤ 11 → floor_in os floor ≤ 11
  floor-small [] floor h = h
  floor-small (o ∷ os) floor h = omega arith

  climb-got : (n floor have : ℕ) (os : List ℕ) (p0 p i j : Input) (x y : Deep) → Opened os p0 p → Got limit have x p i → have ≤ 11 → floor ≤ 11 → floor_in os floor ≤ have
      → climb limit part n os floor have (start p) x i ≡ Some (y, j) → Got limit floor y p0 j
  unfolding climb
  climb-got zero floor have os p0 p i j x y w g hb fb fl hh = cc
  climb-got (suc n) floor have [] p0 p i j x y (here {i = u}) g hb fb fl hh =
      either (chosen (goes_on floor have (kind i)) (and_then (r.operation limit part (start u) x i) (climb limit part n [] floor (gives (kind i)) (start u))) (Some (x, i)) (Some (y, j)) hh)
      (λ q. let m = on-means floor have (kind i) q.0 in let gb = gives-below (kind i) in
      let t = and_then-some (r.operation limit part (start u) x i) (climb limit part n [] floor (gives (kind i)) (start u)) (y, j) q.1 in
      climb-got n floor (gives (kind i)) [] u u t.1 j t.0 y here (operation-got have u i t.1 x t.0 m.1 hb g t.2) (omega arith) fb m.0 t.3)
      (λ q. same-value (λ y j. Got limit floor y u j) x y i j q.1 (lowered have floor x u i fl g))
  climb-got (suc n) floor have (o ∷ os) p0 p i j x y (paren {p = v} w pk) g hb fb fl hh =
      either (chosen (goes_on 0 have (kind i)) (and_then (r.operation limit part (start (next v)) x i) (climb limit part n (start v ∷ os) floor (gives (kind i)) (start (next v))))
      (if same k.RightParenthesis (kind i) then climb limit part n os floor 11 (start v) x (next i) else None) (Some (y, j)) hh)
      (λ q. let m = on-means 0 have (kind i) q.0 in let gb = gives-below (kind i) in
      let t = and_then-some (r.operation limit part (start (next v)) x i) (climb limit part n (start v ∷ os) floor (gives (kind i)) (start (next v))) (y, j) q.1 in
      climb-got n floor (gives (kind i)) (start v ∷ os) p0 (next v) t.1 j t.0 y (paren w pk) (operation-got have (next v) i t.1 x t.0 m.1 hb g t.2) (omega arith) fb (omega arith) t.3)
      (λ q. let a = guard (same k.RightParenthesis (kind i)) (climb limit part n os floor 11 (start v) x (next i)) (y, j) q.1 in
      climb-got n floor 11 os p0 v (next i) j x y w (closed have x v i pk (same-is k.RightParenthesis (kind i) a.0) g) (omega arith) fb (floor-small os floor fb) a.1)
    where
      closed : (have : ℕ) (x : Deep) (v i : Input) → kind v ≡ k.LeftParenthesis → kind i ≡ k.RightParenthesis → Got limit have x (next v) i → Got limit 11 x v (next i)
      closed have x v i a b (got ok d) = got ok (parentheses a (down have 0 (omega arith) d) b)

  -- an item, and what stands behind it
  rest-got : (further : Items → ℕ → Parser (Items × ℕ)) (found f : Items) (s : Bool) (x : Expr) (d m : ℕ) (i a j : Input) (z : Items × ℕ) → f ≡ join_items found (one_item s x) → m ≡ max d (depth x)
      → DerivesItem s x i a → (further f m (next a) ≡ Some (z, j) → GotItems f m (next a) z j) → r.behind_item limit part further f m a ≡ Some (z, j) → GotItems found d i z j
  rest-got further found f s x d m i a j z ef em w again hh =
      either (chosen (same k.Comma (kind a)) (further f m (next a)) (and_then (expect k.RightBracket a) (λ _. λ o. at (f, m) o)) (Some (z, j)) hh)
      (λ q. more-items found f s x d m i a j z ef em w (same-is k.Comma (kind a) q.0) (again q.1))
      (λ q. let g = and_then-some (expect k.RightBracket a) (λ _. λ o. at (f, m) o) (z, j) q.1 in
      let u = expect-some k.RightBracket a g.1 g.0 g.2 in
      let P : Input → Type 0 = λ o. GotItems found d i (f, m) o in
      same-value (λ y j. GotItems found d i y j) (f, m) z g.1 j g.3 (subst P (sym u.1) (one-item found f s x d m i a ef em w u.0)))

  items-got : (n : ℕ) (found : Items) (d : ℕ) (i j : Input) (z : Items × ℕ) → r.items_from limit part n found d i ≡ Some (z, j) → GotItems found d i z j
  unfolding r.items_from
  items-got zero found d i j z hh = cc
  items-got (suc n) found d i j z hh =
      either (chosen (same k.RightBracket (kind i)) (Some ((found, d), next i)) (and_then (part 0 (behind_dots i)) (behind n found d (same k.Spread (kind i)))) (Some (z, j)) hh)
      (λ q. same-value (λ y j. GotItems found d i y j) (found, d) z (next i) j q.1 (no-items found d i (same-is k.RightBracket (kind i) q.0)))
      (λ q. let t = and_then-some (part 0 (behind_dots i)) (behind n found d (same k.Spread (kind i))) (z, j) q.1 in
      go (λ found d i. items-got n found d i j z) (sound 0 (behind_dots i) t.1 t.0 (omega arith) t.2) t.3)
    where
      behind : ℕ → Items → ℕ → Bool → Deep → Parser (Items × ℕ)
      behind n found d s x = r.behind_item limit part (r.items_from limit part n) (join_items found (one_item s x.expr)) (max d x.depth)

      go : ((found : Items) (d : ℕ) (i : Input) → r.items_from limit part n found d i ≡ Some (z, j) → GotItems found d i z j) → {x : Deep} {a : Input} → Got b 0 x (behind_dots i) a
          → behind n found d (same k.Spread (kind i)) x a ≡ Some (z, j) → GotItems found d i z j
      go again (got {x = v} {j = a} _ p) h =
          let s = same k.Spread (kind i) in
          rest-got (r.items_from limit part n) found (join_items found (one_item s v)) s v d (max d (depth v)) i a j z refl refl (item-at s v i a refl p)
          (again (join_items found (one_item s v)) (max d (depth v)) (next a)) h

  array-of-got : (i c j : Input) (y : Deep) (z : Items × ℕ) → kind i ≡ k.LeftBracket → GotItems NoItems 0 (next i) z c → r.array_of limit part (start i) z c ≡ Some (y, j) → Got limit 11 y i j
  array-of-got i c j y z h (got_items {xs = xs} {a = a} q g p f) n =
      let f2 : z.1 ≡ items_depth xs = omega arith in
      let P : Items → Type 0 = λ v. node limit z.1 (Array v (span (start i) (next a))) (next a) ≡ Some (y, j) in
      let Q : ℕ → Type 0 = λ m. node limit m (Array xs (span (start i) (next a))) (next a) ≡ Some (y, j) in
      node-got (λ y j. Got limit 11 y i j) limit (items_depth xs) (Array xs (span (start i) (next a))) (next a) j y (subst Q f2 (subst P p n)) refl
      (λ ok. got ok (array h q g))

  array-got : (i a j : Input) (y : Deep) (s : Bool) (x : Expr) → kind i ≡ k.LeftBracket → DerivesItem s x (next i) a → r.array limit part (start i) s (deep x) a ≡ Some (y, j) → Got limit 11 y i j
  unfolding r.array r.items_after_first
  array-got i a j y s x h w hh =
      let q = and_then-some (r.items_after_first limit part (one_item s x) (depth x) a) (r.array_of limit part (start i)) (y, j) hh in
      array-of-got i q.1 j y q.0 h
      (rest-got (λ found d i. r.items_from limit part (left i) found d i) NoItems (one_item s x) s x 0 (depth x) (next i) a q.1 q.0 refl (omega arith) w
      (items-got (left (next a)) (one_item s x) (depth x) (next a) q.1 q.0) q.2) q.3

  condition-got : (i j : Input) (z : Optional × ℕ) → r.condition limit part i ≡ Some (z, j) → DerivesCondition z.0 i j × (z.1 ≡ optional_depth z.0)
  unfolding r.condition
  condition-got i j z hh =
      either (chosen (same k.If (kind i)) (and_then (part 1 (next i)) written) (at (Absent, 0) i) (Some (z, j)) hh)
      (λ q. let t = and_then-some (part 1 (next i)) written (z, j) q.1 in go (same-is k.If (kind i) q.0) (sound 1 (next i) t.1 t.0 (omega arith) t.2) t.3)
      (λ q. same-value P (Absent, 0) z i j q.1 (no_condition, refl))
    where
      written : Deep → Parser (Optional × ℕ)
      written x j = Some ((Present x.expr, x.depth), j)

      P : Optional × ℕ → Input → Type 0
      P z j = DerivesCondition z.0 i j × (z.1 ≡ optional_depth z.0)

      go : kind i ≡ k.If → {x : Deep} {a : Input} → Got b 1 x (next i) a → written x a ≡ Some (z, j) → P z j
      go e (got {x = v} {j = a} _ d) h = same-value P (Present v, depth v) z a j h (condition e d, refl)

  comprehension-got : (i a j : Input) (y : Deep) (v : Expr) → kind i ≡ k.LeftBracket → Derives 0 v (next i) a → kind a ≡ k.For → r.comprehension limit part (start i) (deep v) a ≡ Some (y, j) → Got limit 11 y i j
  unfolding r.comprehension r.comprehension_made
  comprehension-got i a j y v h d f hh =
      let q = and_then-some (calls (next a)) named (y, j) hh in
      let t = and_then-some (part 1 q.1) (over q.0) (y, j) q.3 in
      let o = and_then-some (r.condition limit part t.1) (r.comprehension_made limit part (start i) (deep v) q.0 t.0) (y, j) t.3 in
      go q.0 o.0 o.1 (calls-got (next a) q.1 q.0 q.2) (sound 1 q.1 t.1 t.0 (omega arith) t.2) (condition-got t.1 o.1 o.0 o.2) o.3
    where
      over : Option site.Name × site.Name → Deep → Parser Deep
      over n y j = and_then (r.condition limit part j) (r.comprehension_made limit part (start i) (deep v) n y)

      named : Option site.Name × site.Name → Parser Deep
      named n j = and_then (part 1 j) (over n)

      go : (n : Option site.Name × site.Name) (z : Optional × ℕ) (e : Input) {w : Deep} {m c : Input} → Calls n.0 n.1 (next a) m → Got b 1 w m c → DerivesCondition z.0 c e × (z.1 ≡ optional_depth z.0)
          → r.comprehension_made limit part (start i) (deep v) n w z e ≡ Some (y, j) → Got limit 11 y i j
      go n z e w (got {x = t} _ g) o nn =
          let made : Input → Expr = λ j. Comprehension v n.0 n.1 t z.0 (span (start i) j) in
          let m = and_then-some (expect k.RightBracket e) (λ _. λ j. node limit (max (depth v) (max (depth t) z.1)) (made j) j) (y, j) nn in
          let u = expect-some k.RightBracket e m.1 m.0 m.2 in
          let od = o.1 in
          let P : Input → Type 0 = λ j. depth (made j) ≤ limit → Got limit 11 (deep (made j)) i j in
          node-got (λ y j. Got limit 11 y i j) limit (max (depth v) (max (depth t) z.1)) (made m.1) m.1 j y m.3 (omega (arith, od))
          (λ ok. subst P (sym u.1) (λ ok. got ok (comprehension h d f w g o.0 u.0)) ok)

  bracketed-got : (i j : Input) (y : Deep) → kind i ≡ k.LeftBracket → r.brackets limit part (start i) (next i) ≡ Some (y, j) → Got limit 11 y i j
  unfolding r.brackets
  bracketed-got i j y h hh =
      either (chosen (same k.RightBracket (kind (next i))) (r.array_of limit part (start i) (NoItems, 0) (next (next i)))
      (and_then (part 0 (behind_dots (next i))) (r.bracketed_by limit part (start i) (same k.Spread (kind (next i))))) (Some (y, j)) hh)
      (λ q. array-of-got i (next (next i)) j y (NoItems, 0) h (no-items NoItems 0 (next i) (same-is k.RightBracket (kind (next i)) q.0)) q.1)
      (λ q. let t = and_then-some (part 0 (behind_dots (next i))) (r.bracketed_by limit part (start i) (same k.Spread (kind (next i)))) (y, j) q.1 in
      go (sound 0 (behind_dots (next i)) t.1 t.0 (omega arith) t.2) t.3)
    where
      by : (s : Bool) (v : Expr) (a : Input) → same k.Spread (kind (next i)) ≡ s → Derives 0 v (if s then next (next i) else next i) a → r.bracketed_by limit part (start i) s (deep v) a ≡ Some (y, j) → Got limit 11 y i j
      by true v a e d n = array-got i a j y true v h (item-at true v (next i) a e d) n
      by false v a e d n =
          either (chosen (same k.For (kind a)) (r.comprehension limit part (start i) (deep v) a) (r.array limit part (start i) false (deep v) a) (Some (y, j)) n)
          (λ q. comprehension-got i a j y v h d (same-is k.For (kind a) q.0) q.1)
          (λ q. array-got i a j y false v h (item-at false v (next i) a e d) q.1)

      go : {x : Deep} {a : Input} → Got b 0 x (behind_dots (next i)) a → r.bracketed_by limit part (start i) (same k.Spread (kind (next i))) x a ≡ Some (y, j) → Got limit 11 y i j
      go (got {x = v} {j = a} _ p) n = by (same k.Spread (kind (next i))) v a refl p n

  entries-got : (n : ℕ) (found : Entries) (d : ℕ) (i j : Input) (z : Entries × ℕ) → r.entries_from limit part n found d i ≡ Some (z, j) → GotEntries found d i z j
  unfolding r.entries_from
  entries-got zero found d i j z hh = cc
  entries-got (suc n) found d i j z hh =
      either (chosen (same k.RightBrace (kind i)) (at (found, d) (next i)) (and_then (r.entry_key i) behind) (Some (z, j)) hh)
      (λ q. same-value (λ y j. GotEntries found d i y j) (found, d) z (next i) j q.1 (no-more-entries found d i (same-is k.RightBrace (kind i) q.0)))
      (λ q. let t = and_then-some (r.entry_key i) behind (z, j) q.1 in
      let u = and_then-some (part 0 t.1) (r.entry_rest limit part (r.entries_from limit part n) found d t.0) (z, j) t.3 in
      go (λ found d i. entries-got n found d i j z) t.0 t.1 (entry_key-got i t.1 t.0 t.2) (sound 0 t.1 u.1 u.0 (omega arith) u.2) u.3)
    where
      behind : Option Key → Parser (Entries × ℕ)
      behind key m = and_then (part 0 m) (r.entry_rest limit part (r.entries_from limit part n) found d key)

      go : ((found : Entries) (d : ℕ) (i : Input) → r.entries_from limit part n found d i ≡ Some (z, j) → GotEntries found d i z j) → (key : Option Key) (m : Input) → Keyed key i m → {x : Deep} {a : Input} → Got b 0 x m a
          → r.entry_rest limit part (r.entries_from limit part n) found d key x a ≡ Some (z, j) → GotEntries found d i z j
      go again key m w (got {x = v} {j = a} _ p) h =
          either (chosen (same k.Comma (kind a)) (r.entries_from limit part n (join_entries found (r.one_entry key v)) (max d (depth v)) (next a))
          (and_then (expect k.RightBrace a) (λ _. λ o. at (join_entries found (r.one_entry key v), max d (depth v)) o)) (Some (z, j)) h)
          (λ q. an-entry-more found key v d i a j z (w v a p) (same-is k.Comma (kind a) q.0) (again (join_entries found (r.one_entry key v)) (max d (depth v)) (next a) q.1))
          (λ q. let g = and_then-some (expect k.RightBrace a) (λ _. λ o. at (join_entries found (r.one_entry key v), max d (depth v)) o) (z, j) q.1 in
          let u = expect-some k.RightBrace a g.1 g.0 g.2 in
          same-value (λ y j. GotEntries found d i y j) (join_entries found (r.one_entry key v), max d (depth v)) z g.1 j g.3
          (let P : Input → Type 0 = λ o. GotEntries found d i (join_entries found (r.one_entry key v), max d (depth v)) o in subst P (sym u.1) (last-entry found key v d i a (w v a p) u.0)))

  map-got : (i j : Input) (y : Deep) → kind i ≡ k.LeftBrace → r.map limit part i ≡ Some (y, j) → Got limit 11 y i j
  unfolding r.map
  map-got i j y h hh =
      let q = and_then-some (r.entries_from limit part (left (next i)) NoEntries 0 (next i)) (λ xs. λ j. node limit xs.1 (Map xs.0 (span (start i) j)) j) (y, j) hh in
      go (entries-got (left (next i)) NoEntries 0 (next i) q.1 q.0 q.2) q.3
    where
      go : {z : Entries × ℕ} {c : Input} → GotEntries NoEntries 0 (next i) z c → node limit z.1 (Map z.0 (span (start i) c)) c ≡ Some (y, j) → Got limit 11 y i j
      go {z = z} (got_entries {xs = xs} {a = a} q g p f) n =
          let f2 : z.1 ≡ entries_depth xs = omega arith in
          let P : Entries → Type 0 = λ v. node limit z.1 (Map v (span (start i) (next a))) (next a) ≡ Some (y, j) in
          let Q : ℕ → Type 0 = λ m. node limit m (Map xs (span (start i) (next a))) (next a) ≡ Some (y, j) in
          node-got (λ y j. Got limit 11 y i j) limit (entries_depth xs) (Map xs (span (start i) (next a))) (next a) j y (subst Q f2 (subst P p n)) refl
          (λ ok. got ok (map h q g))

  leaf-to : (i a j : Input) (y : Deep) (x : Expr) → depth x ≡ 1 → Derives 11 x i a → node limit 0 x a ≡ Some (y, j) → Got limit 11 y i j
  leaf-to i a j y x e d h = node-got (λ y j. Got limit 11 y i j) limit 0 x a j y h e (λ ok. got ok d)

  leaf-got : (i j : Input) (y : Deep) (x : Expr) → depth x ≡ 1 → Derives 11 x i (next i) → node limit 0 x (next i) ≡ Some (y, j) → Got limit 11 y i j
  leaf-got i j y x e d h = leaf-to i (next i) j y x e d h

  call-got : (i j : Input) (y : Deep) → kind i ≡ k.Name → is_call i ≡ true → r.call limit part i ≡ Some (y, j) → Got limit 11 y i j
  unfolding r.call
  call-got i j y h e hh =
      let o = next (next i) in
      let q = and_then-some (r.arguments_from limit part (left o) NoArguments 0 o) (r.call_of limit part (start i) (text i)) (y, j) hh in
      let g = arguments-got limit part reads (left o) NoArguments 0 o q.1 q.0 refl q.2 in
      let f = g.4 in
      let made : Input → Expr = λ c. call_form (text i) q.0.0 (span (start i) c) in
      let v = call-depth (text i) q.0.0 (span (start i) q.1) in
      let P : Input → Type 0 = λ c. depth (made c) ≤ limit → Got limit 11 (deep (made c)) i c in
      node-got (λ y j. Got limit 11 y i j) limit q.0.1 (made q.1) q.1 j y q.3 (omega (arith, f, v))
      (λ ok. subst P (sym g.3) (λ ok. got ok (call h e g.1 g.2)) ok)

  component-by-got : (i j : Input) (y : Deep) → kind i ≡ k.Less → r.component limit part i ≡ Some (y, j) → Got limit 11 y i j
  component-by-got i j y h hh = component-got limit part reads (λ y j. Got limit 11 y i j) i j y h (λ _ _ d ok. got ok d) hh

  name-got : (o : Option site.Name) (i j : Input) (y : Deep) → loop_name i ≡ o → kind i ≡ k.Name → r.name_by limit part o i ≡ Some (y, j) → Got limit 11 y i j
  name-got None i j y e h hh =
      either (chosen (is_call i) (r.call limit part i) (node limit 0 (Name (text i) (span (start i) (next i))) (next i)) (Some (y, j)) hh)
      (λ q. call-got i j y h q.0 q.1)
      (λ q. leaf-got i j y (Name (text i) (span (start i) (next i))) refl (name h e q.0) q.1)
  name-got (Some n) i j y e h hh = leaf-to i (behind_loop i) j y (Name n (span (start i) (behind_loop i))) refl (of_loop h e) hh

  int-got : (o : Option ℤ) (i j : Input) (y : Deep) → integer (text i) ≡ o → kind i ≡ k.Int → r.leaf limit part (option_map (λ z. Integer z (span (start i) (next i))) o) (next i) ≡ Some (y, j) → Got limit 11 y i j
  int-got None i j y e h hh = cc
  int-got (Some z) i j y e h hh = leaf-got i j y (Integer z (span (start i) (next i))) refl (int h e) hh

  quoted-got : (o : Option site.Text) (i j : Input) (y : Deep) → literal (text i) ≡ o → kind i ≡ k.Text → r.leaf limit part (option_map (λ t. Text t (span (start i) (next i))) o) (next i) ≡ Some (y, j) → Got limit 11 y i j
  quoted-got None i j y e h hh = cc
  quoted-got (Some t) i j y e h hh = leaf-got i j y (Text t (span (start i) (next i))) refl (quoted h e) hh

  head-by-got : (s : Kind) (i j : Input) (y : Deep) → kind i ≡ s → r.head_by limit part s i ≡ Some (y, j) → Got limit (begins s) y i j
  unfolding begins
  head-by-got k.Minus i j y h hh = prefixed-got 8 Negate (λ _ _. refl) i j y (omega arith) (λ _ _ d. minus h d) hh
  head-by-got k.Not i j y h hh = prefixed-got 3 Not (λ _ _. refl) i j y (omega arith) (λ _ _ d. not h d) hh
  head-by-got k.Int i j y h hh = int-got (integer (text i)) i j y refl h hh
  head-by-got k.Text i j y h hh = quoted-got (literal (text i)) i j y refl h hh
  head-by-got k.True i j y h hh = leaf-got i j y (Boolean true (span (start i) (next i))) refl (is_true h) hh
  head-by-got k.False i j y h hh = leaf-got i j y (Boolean false (span (start i) (next i))) refl (is_false h) hh
  head-by-got k.Nothing i j y h hh = leaf-got i j y (Nothing (span (start i) (next i))) refl (nothing h) hh
  head-by-got k.Name i j y h hh = name-got (loop_name i) i j y refl h hh
  head-by-got k.LeftBracket i j y h hh = bracketed-got i j y h hh
  head-by-got k.LeftBrace i j y h hh = map-got i j y h hh
  head-by-got k.Less i j y h hh = component-by-got i j y h hh
  head-by-got _ i j y h hh = cc

  begins-small : (s : Kind) → begins s ≤ 11
  unfolding begins
  begins-small s = elim s as (λ s. begins s ≤ 11) [ k.If ↦ omega arith | _ ↦ omega arith ]

  level-got : (floor : ℕ) (i j : Input) (y : Deep) → floor ≤ 11 → level limit part floor i ≡ Some (y, j) → Got limit floor y i j
  unfolding level level_with head
  level-got floor i j y fb hh =
      let q = and_then-some (opened (left i) [] i) (λ os. level_with limit part (left i) os floor) (y, j) hh in
      let a = guard (nat_le (floor_in q.0 floor) (begins (kind q.1))) (and_then (head limit part q.1) (climb limit part (left i) q.0 floor (begins (kind q.1)) (start q.1))) (y, j) q.3 in
      let t = and_then-some (head limit part q.1) (climb limit part (left i) q.0 floor (begins (kind q.1)) (start q.1)) (y, j) a.1 in
      let le : floor_in q.0 floor ≤ begins (kind q.1) = grind (arith, common_steps, a.0) in
      climb-got (left i) floor (begins (kind q.1)) q.0 i q.1 t.1 j t.0 y (opened-got (left i) [] q.0 i i q.1 here q.2) (head-by-got (kind q.1) q.1 t.1 t.0 refl t.2) (begins-small (kind q.1)) fb le t.3

expr-got : (b : ℕ) → Sound b (expr b)
unfolding expr
expr-got zero l i j x le h = cc
expr-got (suc b) l i j x le h = level-got (suc b) b (expr b) (expr-got b) l i j x le h

parts-of : (b l : ℕ) (x : Deep) (i j : Input) → Got b l x i j → Derives l x.expr i j × (x.depth ≡ depth x.expr) × (depth x.expr ≤ b)
parts-of b l x i j (got ok d) = (d, refl, ok)

pub what_is_read : (b : ℕ) (i j : Input) (x : Deep) → expr b 0 i ≡ Some (x, j) → Derives 0 x.expr i j × (x.depth ≡ depth x.expr) × (depth x.expr ≤ b)
what_is_read b i j x h = parts-of b 0 x i j (expr-got b 0 i j x (omega arith) h)
