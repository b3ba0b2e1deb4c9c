-- What each form is read to.
use Rattle.std.proofs.Common.{◌≡◌, ℕ, suc, ◌+◌, ◌<◌, ◌≤◌, max, ℤ, Bool, true, false, not, nat_lt, Option, Some, None, option_map, refl, ◌∙◌, ap, arith}
use Rattle.std.proofs.lemmas.Grind.{common_steps}
use Rattle.tera_errors.specs.Site as site
use Rattle.tera_errors.specs.declared.span.Span.{Span}
use Rattle.tera_syntax_tree.specs.declared.expression.BinaryOperator.TheVariants as binary
use Rattle.tera_syntax_tree.specs.Tree.{Expr, Nothing, Integer, Text, Attribute, Index, Slice, Optional, Absent, Present, Not, Binary, Ternary, Array, Items, NoItems, Map, Comprehension, Key, Entries, NoEntries}
use Rattle.tera_syntax_tree.specs.Depth.{depth, items_depth, entries_depth, optional_depth}
use Rattle.tera_syntax_tokens.specs.declared.token.Kind.{Kind}
use Rattle.tera_syntax_tokens.specs.declared.token.Kind.TheVariants as k
use Rattle.tera_syntax_tokens.specs.Input.{Input, Parser, same, kind, start, text, next, left, span, expect, is_word}
use Rattle.tera_syntax_tokens.specs.Literal.{integer, literal}
use Rattle.tera_syntax_expressions.specs.Keys.{key_at}
use Rattle.tera_syntax_expressions.specs.Grammar.{Operator, or, and, equal, not_equal, less, greater, less_or_equal, greater_or_equal, is_in, concat, add, subtract, multiply, divide, floor_divide, remainder, Dot, dot, optional_dot, Bracket, bracket, optional_bracket}
use Rattle.tera_syntax_expressions.specs.Headings.{Calls}
use Rattle.tera_syntax_expressions.specs.Expressions as r
use Rattle.tera_syntax_expressions.specs.Expressions.{Deep, deep, expr, node, prefix_form, infix_form, applied, behind_dots, join_items, one_item, join_entries}
use Rattle.tera_syntax_expressions.proofs.Steps as steps
use Rattle.tera_syntax_expressions.proofs.Steps.{differ, unlike, alike}
use Rattle.tera_syntax_expressions.proofs.Extent.{key-kind}
use Rattle.tera_syntax_expressions.proofs.Calls.{calls-is}
use Rattle.tera_syntax_expressions.proofs.GoingOn.{and-false}

pub deep-node : (limit d : ℕ) (x : Expr) (j : Input) → suc d ≤ limit → depth x ≡ suc d → node limit d x j ≡ Some (deep x, j)
unfolding node
deep-node limit d x j le e =
    let t : nat_lt d limit ≡ true = grind (arith, common_steps) in
    let f : d + 1 ≡ depth x = omega arith in
    rw t (ap (λ n. Some (record { expr = x; depth = n }, j)) f)

pub some-depth : (x : Expr) → 0 < depth x
some-depth x = elim x as (λ x. 0 < depth x) [ Nothing _ ↦ omega arith | _ ↦ omega arith ]

module _ (limit : ℕ) (part : ℕ → Parser Deep) where
  pub expects : (s : Kind) (i : Input) → kind i ≡ s → expect s i ≡ Some (tt, next i)
  unfolding expect
  expects s i h = let q : same s (kind i) ≡ true = ap (same s) h ∙ steps.same-refl s in rw q refl

  pub infixed-is : (l : ℕ) (form : Expr → Expr → Span → Expr) (from : ℕ) (x y : Expr) (a j : Input) → depth (form x y (span from j)) ≡ suc (max (depth x) (depth y))
      → part l (next a) ≡ Some (deep y, j) → depth (form x y (span from j)) ≤ limit
      → infix_form limit part l form from (deep x) a ≡ Some (deep (form x y (span from j)), j)
  unfolding infix_form
  infixed-is l form from x y a j d h le =
      rw h (deep-node limit (max (depth x) (depth y)) (form x y (span from j)) j (omega arith) d)

  pub operator-is : {s : Kind} {form : Expr → Expr → Span → Expr} {l : ℕ} (from : ℕ) (x : Deep) (a : Input) → Operator s form l → kind a ≡ s → r.operation limit part from x a ≡ infix_form limit part (suc l) form from x a
  unfolding r.operation applied
  operator-is from x a or h = ap (λ s. r.operation_by limit part from x s a) h
  operator-is from x a and h = ap (λ s. r.operation_by limit part from x s a) h
  operator-is from x a equal h = ap (λ s. r.operation_by limit part from x s a) h
  operator-is from x a not_equal h = ap (λ s. r.operation_by limit part from x s a) h
  operator-is from x a less h = ap (λ s. r.operation_by limit part from x s a) h
  operator-is from x a greater h = ap (λ s. r.operation_by limit part from x s a) h
  operator-is from x a less_or_equal h = ap (λ s. r.operation_by limit part from x s a) h
  operator-is from x a greater_or_equal h = ap (λ s. r.operation_by limit part from x s a) h
  operator-is from x a is_in h = ap (λ s. r.operation_by limit part from x s a) h
  operator-is from x a concat h = ap (λ s. r.operation_by limit part from x s a) h
  operator-is from x a add h = ap (λ s. r.operation_by limit part from x s a) h
  operator-is from x a subtract h = ap (λ s. r.operation_by limit part from x s a) h
  operator-is from x a multiply h = ap (λ s. r.operation_by limit part from x s a) h
  operator-is from x a divide h = ap (λ s. r.operation_by limit part from x s a) h
  operator-is from x a floor_divide h = ap (λ s. r.operation_by limit part from x s a) h
  operator-is from x a remainder h = ap (λ s. r.operation_by limit part from x s a) h

  pub power-is : (from : ℕ) (x y : Expr) (a j : Input) → kind a ≡ k.Power → part 8 (next a) ≡ Some (deep y, j) → depth (Binary binary.Power x y (span from j)) ≤ limit
      → r.operation limit part from (deep x) a ≡ Some (deep (Binary binary.Power x y (span from j)), j)
  unfolding r.operation applied
  power-is from x y a j h p le = ap (λ s. r.operation_by limit part from (deep x) s a) h ∙ infixed-is 8 (Binary binary.Power) from x y a j refl p le

  pub not_in-is : (from : ℕ) (x y : Expr) (a j : Input) → kind a ≡ k.Not → kind (next a) ≡ k.In → part 5 (next (next a)) ≡ Some (deep y, j)
      → depth (Not (Binary binary.In x y (span from j)) (span from j)) ≤ limit
      → r.operation limit part from (deep x) a ≡ Some (deep (Not (Binary binary.In x y (span from j)) (span from j)), j)
  unfolding r.operation r.not_in applied
  not_in-is from x y a j h g p le =
      let q : same k.In (kind (next a)) ≡ true = ap (same k.In) g ∙ steps.same-refl k.In in
      ap (λ s. r.operation_by limit part from (deep x) s a) h
      ∙ rw (q, infixed-is 5 (Binary binary.In) from x y (next a) j refl p (omega arith))
      (deep-node limit (depth (Binary binary.In x y (span from j))) (Not (Binary binary.In x y (span from j)) (span from j)) j (omega arith) refl)

  pub choice-is : (from : ℕ) (x y z : Expr) (a b j : Input) → kind a ≡ k.If → part 1 (next a) ≡ Some (deep y, b) → kind b ≡ k.Else → part 0 (next b) ≡ Some (deep z, j)
      → depth (Ternary x y z (span from j)) ≤ limit → r.operation limit part from (deep x) a ≡ Some (deep (Ternary x y z (span from j)), j)
  unfolding r.operation r.choice r.other
  choice-is from x y z a b j h f g q le =
      ap (λ s. r.operation_by limit part from (deep x) s a) h
      ∙ rw (f, expects k.Else b g, q) (deep-node limit (max (depth x) (max (depth y) (depth z))) (Ternary x y z (span from j)) j (omega arith) refl)

  pub attribute-by : {s : Kind} {optional : Bool} → Dot s optional → (from : ℕ) (x : Deep) (a : Input) → kind a ≡ s → r.operation limit part from x a ≡ r.attribute limit part optional from x a
  unfolding r.operation
  attribute-by dot from x a h = ap (λ s. r.operation_by limit part from x s a) h
  attribute-by optional_dot from x a h = ap (λ s. r.operation_by limit part from x s a) h

  pub attribute-is : {s : Kind} {optional : Bool} → Dot s optional → (from : ℕ) (x : Expr) (a : Input) → kind a ≡ s → is_word (kind (next a)) ≡ true
      → depth (Attribute x (text (next a)) optional (span from (next (next a)))) ≤ limit
      → r.operation limit part from (deep x) a ≡ Some (deep (Attribute x (text (next a)) optional (span from (next (next a)))), next (next a))
  unfolding r.attribute
  attribute-is {s} {optional} w from x a h g le =
      attribute-by w from (deep x) a h ∙ rw g (deep-node limit (depth x) (Attribute x (text (next a)) optional (span from (next (next a)))) (next (next a)) (omega arith) refl)

  pub subscript-by : {s : Kind} {optional : Bool} → Bracket s optional → (from : ℕ) (x : Deep) (a : Input) → kind a ≡ s → r.operation limit part from x a ≡ r.subscript limit part optional from x a
  unfolding r.operation
  subscript-by bracket from x a h = ap (λ s. r.operation_by limit part from x s a) h
  subscript-by optional_bracket from x a h = ap (λ s. r.operation_by limit part from x s a) h

  pub index-is : {s : Kind} {optional : Bool} → Bracket s optional → (from : ℕ) (x y : Expr) (a b : Input) → kind a ≡ s → r.part limit part (next a) ≡ Some ((Present y, depth y), b) → kind b ≡ k.RightBracket
      → depth (Index x y optional (span from (next b))) ≤ limit → r.operation limit part from (deep x) a ≡ Some (deep (Index x y optional (span from (next b))), next b)
  unfolding r.subscript r.index_at
  index-is {s} {optional} w from x y a b h f g le =
      let q : same k.RightBracket (kind b) ≡ true = ap (same k.RightBracket) g ∙ steps.same-refl k.RightBracket in
      subscript-by w from (deep x) a h ∙ rw (f, q) (deep-node limit (max (depth x) (depth y)) (Index x y optional (span from (next b))) (next b) (omega arith) refl)

  -- a bracket that closes where an index should stand
  pub subscript-none : (optional : Bool) (from : ℕ) (x : Deep) (i : Input) → same k.RightBracket (kind (next i)) ≡ true → r.subscript limit part optional from x i ≡ None
  unfolding r.subscript r.part r.index_at
  subscript-none optional from x i h =
      rw (differ k.Colon k.RightBracket (kind (next i)) (steps.same-is k.RightBracket (kind (next i)) h) (λ e. cc), h) (rw h refl)

  pub slice-is : {s : Kind} {optional : Bool} → Bracket s optional → (from : ℕ) (x : Expr) (p q t : Optional) (a b c d : Input) → kind a ≡ s → r.part limit part (next a) ≡ Some ((p, optional_depth p), b)
      → same k.RightBracket (kind b) ≡ false → kind b ≡ k.Colon → r.part limit part (next b) ≡ Some ((q, optional_depth q), c) → r.step limit part c ≡ Some ((t, optional_depth t), d) → kind d ≡ k.RightBracket
      → depth (Slice x p q t optional (span from (next d))) ≤ limit → r.operation limit part from (deep x) a ≡ Some (deep (Slice x p q t optional (span from (next d))), next d)
  unfolding r.subscript r.slice r.slice_made
  slice-is {s} {optional} w from x p q t a b c d h f n g f2 f3 u le =
      subscript-by w from (deep x) a h
      ∙ rw (f, n, expects k.Colon b g, f2, f3, expects k.RightBracket d u)
      (deep-node limit (max (depth x) (max (optional_depth p) (max (optional_depth q) (optional_depth t)))) (Slice x p q t optional (span from (next d))) (next d) (omega arith) refl)

  pub prefixed-is : (l : ℕ) (form : Expr → Span → Expr) (x : Expr) (i j : Input) → depth (form x (span (start i) j)) ≡ suc (depth x) → part l (next i) ≡ Some (deep x, j) → depth (form x (span (start i) j)) ≤ limit
      → prefix_form limit part l form i ≡ Some (deep (form x (span (start i) j)), j)
  unfolding prefix_form
  prefixed-is l form x i j d h le = rw h (deep-node limit (depth x) (form x (span (start i) j)) j (omega arith) d)

module _ (limit : ℕ) (part : ℕ → Parser Deep) where
  pub item-none : (n : ℕ) (found : Items) (d : ℕ) (i : Input) → kind i ≡ k.RightBracket → r.items_from limit part (suc n) found d i ≡ Some ((found, d), next i)
  unfolding r.items_from
  item-none n found d i h = rw (alike k.RightBracket (kind i) h) refl

  pub item-one : (n : ℕ) (found : Items) (d : ℕ) (s : Bool) (x : Expr) (i a : Input) → (kind i ≡ k.RightBracket → ⊥) → same k.Spread (kind i) ≡ s → part 0 (behind_dots i) ≡ Some (deep x, a) → kind a ≡ k.RightBracket
      → r.items_from limit part (suc n) found d i ≡ Some ((join_items found (one_item s x), max d (depth x)), next a)
  unfolding r.items_from
  item-one n found d s x i a h e p g = rw (unlike k.RightBracket (kind i) h, p, differ k.Comma k.RightBracket (kind a) g (λ e. cc), expects limit part k.RightBracket a g, e) refl

  pub item-more : (n : ℕ) (found : Items) (d : ℕ) (s : Bool) (x : Expr) (i a : Input) (y : Option ((Items × ℕ) × Input)) → (kind i ≡ k.RightBracket → ⊥) → same k.Spread (kind i) ≡ s → part 0 (behind_dots i) ≡ Some (deep x, a)
      → kind a ≡ k.Comma → r.items_from limit part n (join_items found (one_item s x)) (max d (depth x)) (next a) ≡ y → r.items_from limit part (suc n) found d i ≡ y
  unfolding r.items_from
  item-more n found d s x i a y h e p g q = rw (unlike k.RightBracket (kind i) h, p, alike k.Comma (kind a) g, e) q

  pub behind-last : (found : Items) (d : ℕ) (a : Input) → kind a ≡ k.RightBracket → r.items_after_first limit part found d a ≡ Some ((found, d), next a)
  unfolding r.items_after_first
  behind-last found d a g = rw (differ k.Comma k.RightBracket (kind a) g (λ e. cc), expects limit part k.RightBracket a g) refl

  pub behind-comma : (found : Items) (d : ℕ) (a : Input) → kind a ≡ k.Comma → r.items_after_first limit part found d a ≡ r.items_from limit part (left (next a)) found d (next a)
  unfolding r.items_after_first
  behind-comma found d a g = rw (alike k.Comma (kind a) g) refl

  pub empty-is : (from : ℕ) (i : Input) → kind i ≡ k.RightBracket → 1 ≤ limit → r.brackets limit part from i ≡ Some (deep (Array NoItems (span from (next i))), next i)
  unfolding r.brackets
  empty-is from i h le = rw (alike k.RightBracket (kind i) h) (deep-node limit 0 (Array NoItems (span from (next i))) (next i) le refl)

  pub array-is : (from : ℕ) (s : Bool) (x : Expr) (xs : Items) (i a j : Input) → (kind i ≡ k.RightBracket → ⊥) → same k.Spread (kind i) ≡ s → part 0 (behind_dots i) ≡ Some (deep x, a) → same k.For (kind a) ≡ false
      → r.items_after_first limit part (one_item s x) (depth x) a ≡ Some ((xs, items_depth xs), j) → depth (Array xs (span from j)) ≤ limit
      → r.brackets limit part from i ≡ Some (deep (Array xs (span from j)), j)
  unfolding r.brackets r.array
  array-is from s x xs i a j h e p f q le =
      rw (unlike k.RightBracket (kind i) h, p, f, and-false (not (same k.Spread (kind i))), e, q) (deep-node limit (items_depth xs) (Array xs (span from j)) j (omega arith) refl)

  pub no-condition-is : (i : Input) → kind i ≡ k.RightBracket → r.condition limit part i ≡ Some ((Absent, 0), i)
  unfolding r.condition
  no-condition-is i h = rw (differ k.If k.RightBracket (kind i) h (λ e. cc)) refl

  pub condition-is : (x : Expr) (i a : Input) → kind i ≡ k.If → part 1 (next i) ≡ Some (deep x, a) → r.condition limit part i ≡ Some ((Present x, depth x), a)
  unfolding r.condition
  condition-is x i a h e = rw (alike k.If (kind i) h, e) refl

  pub comprehension-is : (x y : Expr) (key : Option site.Name) (name : site.Name) (o : Optional) (i a b c d : Input) → (kind (next i) ≡ k.RightBracket → ⊥) → same k.Spread (kind (next i)) ≡ false
      → part 0 (next i) ≡ Some (deep x, a) → kind a ≡ k.For → Calls key name (next a) b → part 1 b ≡ Some (deep y, c) → r.condition limit part c ≡ Some ((o, optional_depth o), d) → kind d ≡ k.RightBracket
      → depth (Comprehension x key name y o (span (start i) (next d))) ≤ limit
      → r.brackets limit part (start i) (next i) ≡ Some (deep (Comprehension x key name y o (span (start i) (next d))), next d)
  unfolding r.brackets r.comprehension r.comprehension_made
  comprehension-is x y key name o i a b c d h e p f w q t g le =
      rw (unlike k.RightBracket (kind (next i)) h, e, p, alike k.For (kind a) f, calls-is w, q, t, expects limit part k.RightBracket d g)
      (deep-node limit (max (depth x) (max (depth y) (optional_depth o))) (Comprehension x key name y o (span (start i) (next d))) (next d) (omega arith) refl)

  pub key-is : (key : Key) (i : Input) → key_at i ≡ Some key → kind (next i) ≡ k.Colon → r.entry_key i ≡ Some (Some key, next (next i))
  unfolding r.entry_key
  key-is key i h q = rw (unlike k.Spread (kind i) (key-kind k.Spread i key h refl), h, expects limit part k.Colon (next i) q) refl

  pub dots-is : (i : Input) → kind i ≡ k.Spread → r.entry_key i ≡ Some (None, next i)
  unfolding r.entry_key
  dots-is i h = rw (alike k.Spread (kind i) h) refl

  pub entry-none : (n : ℕ) (found : Entries) (d : ℕ) (i : Input) → kind i ≡ k.RightBrace → r.entries_from limit part (suc n) found d i ≡ Some ((found, d), next i)
  unfolding r.entries_from
  entry-none n found d i h = rw (alike k.RightBrace (kind i) h) refl

  pub entry-one : (n : ℕ) (found : Entries) (d : ℕ) (key : Option Key) (x : Expr) (i m a : Input) → (kind i ≡ k.RightBrace → ⊥) → r.entry_key i ≡ Some (key, m) → part 0 m ≡ Some (deep x, a) → kind a ≡ k.RightBrace
      → r.entries_from limit part (suc n) found d i ≡ Some ((join_entries found (r.one_entry key x), max d (depth x)), next a)
  unfolding r.entries_from
  entry-one n found d key x i m a h e p g = rw (unlike k.RightBrace (kind i) h, e, p, differ k.Comma k.RightBrace (kind a) g (λ e. cc), expects limit part k.RightBrace a g) refl

  pub entry-more : (n : ℕ) (found : Entries) (d : ℕ) (key : Option Key) (x : Expr) (i m a : Input) (y : Option ((Entries × ℕ) × Input)) → (kind i ≡ k.RightBrace → ⊥) → r.entry_key i ≡ Some (key, m) → part 0 m ≡ Some (deep x, a)
      → kind a ≡ k.Comma → r.entries_from limit part n (join_entries found (r.one_entry key x)) (max d (depth x)) (next a) ≡ y → r.entries_from limit part (suc n) found d i ≡ y
  unfolding r.entries_from
  entry-more n found d key x i m a y h e p g q = rw (unlike k.RightBrace (kind i) h, e, p, alike k.Comma (kind a) g) q

  pub map-is : (xs : Entries) (i a : Input) → r.entries_from limit part (left (next i)) NoEntries 0 (next i) ≡ Some ((xs, entries_depth xs), next a)
      → depth (Map xs (span (start i) (next a))) ≤ limit → r.map limit part i ≡ Some (deep (Map xs (span (start i) (next a))), next a)
  unfolding r.map
  map-is xs i a h le = rw h (deep-node limit (entries_depth xs) (Map xs (span (start i) (next a))) (next a) (omega arith) refl)

  pub int-is : (z : ℤ) (i : Input) → integer (text i) ≡ Some z → 1 ≤ limit → r.head_by limit part k.Int i ≡ Some (deep (Integer z (span (start i) (next i))), next i)
  int-is z i e le =
      ap (λ o. r.leaf limit part (option_map (λ z. Integer z (span (start i) (next i))) o) (next i)) e ∙ deep-node limit 0 (Integer z (span (start i) (next i))) (next i) le refl

  pub quoted-is : (t : site.Text) (i : Input) → literal (text i) ≡ Some t → 1 ≤ limit → r.head_by limit part k.Text i ≡ Some (deep (Text t (span (start i) (next i))), next i)
  quoted-is t i e le =
      ap (λ o. r.leaf limit part (option_map (λ t. Text t (span (start i) (next i))) o) (next i)) e ∙ deep-node limit 0 (Text t (span (start i) (next i))) (next i) le refl

pub part-colon : (limit : ℕ) (sub : ℕ → Parser Deep) (i : Input) → kind i ≡ k.Colon → r.part limit sub i ≡ Some ((Absent, 0), i)
unfolding r.part
part-colon limit sub i h = rw (alike k.Colon (kind i) h) refl

pub part-bracket : (limit : ℕ) (sub : ℕ → Parser Deep) (i : Input) → kind i ≡ k.RightBracket → r.part limit sub i ≡ Some ((Absent, 0), i)
unfolding r.part
part-bracket limit sub i h = rw (differ k.Colon k.RightBracket (kind i) h (λ e. cc), alike k.RightBracket (kind i) h) refl

pub part-some : (limit : ℕ) (sub : ℕ → Parser Deep) (x : Expr) (i a : Input) → (kind i ≡ k.Colon → ⊥) → (kind i ≡ k.RightBracket → ⊥) → sub 0 i ≡ Some (deep x, a) → r.part limit sub i ≡ Some ((Present x, depth x), a)
unfolding r.part
part-some limit sub x i a c b e = rw (unlike k.Colon (kind i) c, unlike k.RightBracket (kind i) b, e) refl

pub step-none : (limit : ℕ) (sub : ℕ → Parser Deep) (i : Input) → kind i ≡ k.RightBracket → r.step limit sub i ≡ Some ((Absent, 0), i)
unfolding r.step
step-none limit sub i h = rw (differ k.Colon k.RightBracket (kind i) h (λ e. cc)) refl

pub step-some : (limit : ℕ) (sub : ℕ → Parser Deep) (i : Input) → kind i ≡ k.Colon → r.step limit sub i ≡ r.part limit sub (next i)
unfolding r.step
step-some limit sub i h = rw (alike k.Colon (kind i) h) refl
