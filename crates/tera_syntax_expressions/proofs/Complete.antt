-- What is derived is read.
use Rattle.std.proofs.Common.{◌≡◌, ℕ, zero, suc, ◌≤◌, ◌⊎◌, inl, inr, max, ◌∷◌, Bool, true, false, Option, Some, refl, sym, ◌∙◌, ap, arith}
use Rattle.tera_syntax_tree.specs.declared.expression.BinaryOperator.TheVariants as binary
use Rattle.tera_syntax_tree.specs.Tree.{Expr, Nothing, Boolean, Integer, Text, Name, Attribute, Index, Slice, Optional, Not, Negate, Binary, Ternary, Array, Items, NoItems, MoreItems, Map, Comprehension, Filter, Test, Component, Key, Entries, NoEntries, MoreEntries, Arguments}
use Rattle.tera_syntax_tree.specs.Depth.{depth, items_depth, entries_depth, optional_depth, arguments_depth}
use Rattle.tera_syntax_tokens.specs.declared.token.Kind.TheVariants as k
use Rattle.tera_syntax_tokens.specs.Input.{Input, kind, start, text, next, left, span}
use Rattle.tera_syntax_expressions.specs.Grammar.{Derives, quoted, tighter, choice, operation, not, not_in, minus, power, attribute, index, slice, DerivesPart, absent, present, DerivesStep, no_step, step, int, is_true, is_false, nothing, name, of_loop, parentheses, array, map, DerivesEntry, keyed, spread_map, DerivesEntries, no_entries, one_entry, more_entries, DerivesItem, plain, spread, DerivesItems, none, one, more, comprehension, DerivesCondition, no_condition, condition, call, component, DerivesValue, text_value, braced_value, DerivesAttribute, named_attribute, spread_attribute, DerivesAttributes, no_attributes, more_attributes, filter, test, not_test, DerivesArgument, argument, DerivesArguments, no_arguments, one_argument, more_arguments, DerivesGiven, not_given, given}
use Rattle.tera_syntax_expressions.specs.Expressions as r
use Rattle.tera_syntax_expressions.specs.Arguments.{call_form, begins_attribute}
use Rattle.tera_syntax_expressions.specs.Loops.{behind_loop}
use Rattle.tera_syntax_expressions.specs.Expressions.{deep, needs, gives, expr, behind_dots, join_items, one_item, join_entries}
use Rattle.tera_syntax_expressions.proofs.Steps.{differ, unlike, alike, test-name}
use Rattle.tera_syntax_expressions.proofs.GoingOn.{operator-depth, is-no-end, operator-needs, dot-needs, bracket-needs, needs-some, not-three, not-eight, stops-up, ends-up, ends, eight-of-nine, needed-kinds, given-kinds, closing-kinds, level-at, begin-kinds, ends-bound, ends-target, at-most}
use Rattle.tera_syntax_expressions.proofs.Extent.{next-left, token, word-left, shorter, shorter-entry, shorter-entries, shorter-part, shorter-step, shorter-item, shorter-all, shorter-attribute, shorter-attributes, shorter-argument, shorter-given, starts-so, item-starts, entry-starts, argument-starts, step-begins, condition-begins}
use Rattle.tera_syntax_expressions.proofs.Rows.{join-none, join-join, join-no-entries, join-entries, got-none, got-one, got-more, got-first}
use Rattle.tera_syntax_expressions.proofs.Forms.{deep-node, some-depth, infixed-is, operator-is, power-is, not_in-is, choice-is, attribute-is, index-is, slice-is, prefixed-is, item-none, item-one, item-more, behind-last, behind-comma, empty-is, array-is, no-condition-is, condition-is, comprehension-is, key-is, dots-is, entry-none, entry-one, entry-more, map-is, int-is, quoted-is, part-colon, part-bracket, part-some, step-none, step-some}
use Rattle.tera_syntax_expressions.proofs.Alone.{called_no_loop}
use Rattle.tera_syntax_expressions.proofs.ArgumentRows.{put-depth, grown, call-depth, argument-is, arguments-none, arguments-one, arguments-more, call-is}
use Rattle.tera_syntax_expressions.proofs.AttributeRows.{attribute-begins, ends-attributes, attributes-stop, attributes-more, text-is, value-is, named-is, spread-is, component-is}
use Rattle.tera_syntax_expressions.proofs.Passing.{given-none, given-some, filter-is, test-is, not_test-is}
use Rattle.tera_syntax_expressions.proofs.Climbing.{close, lower, reading-open, Goes, whole, part-read, goes-on, goes-first, head-is, goes-leaf}

mutual
  goes : {l : ℕ} {x : Expr} {i j : Input} → Derives l x i j → Goes l x i j
  goes (tighter {l = l} {x = x} {i = i} {j = j} d) b m n floor os y dep fl st fu c =
      let top = at-most d in
      goes d b m n floor os y dep (omega arith) (stops-up l (kind j) st) fu (lower (suc b) (expr b) n floor l (start i) os (deep x) j y st (omega arith) c)
  goes (choice {x = x} {y = z} {z = w} {i = i} {a = a} {b = v} {j = j} d h f g q) b m n floor os y dep fl st fu c =
      let n1 = level-at needs (kind a) k.If 1 h needed-kinds.0 in let g1 = level-at gives (kind a) k.If 0 h given-kinds.0 in
      let n2 = level-at needs (kind v) k.Else 12 g closing-kinds.0 in
      let n3 = needs-some (kind j) in
      let pz : part-read b 1 z (next a) v = whole 1 z (next a) v (goes f) (inr (omega arith)) (inr (omega arith)) (some-depth z) b (omega arith) in
      let pw : part-read b 0 w (next v) j = whole 0 w (next v) j (goes q) st (inr (omega arith)) (some-depth w) b (omega arith) in
      let t1 = token k.If a h (λ e. cc) in let t2 = token k.Else v g (λ e. cc) in let s1 = shorter f in let s2 = shorter q in
      goes-on b m n floor 1 0 os x (Ternary x z w (span (start i) j)) i a j y (goes d) (omega arith) fl (omega arith) n1 g1 fu (omega arith)
      (choice-is (suc b) (expr b) (start i) x z w a v j h pz g pw dep) c
  goes (operation {s = s} {form = form} {l = l} {x = x} {y = z} {i = i} {a = a} {j = j} w d h f) b m n floor os y dep fl st fu c =
      let dd = operator-depth w x z (span (start i) j) in
      let v = operator-needs w in
      let n1 = level-at needs (kind a) s l h v.0 in let g1 = level-at gives (kind a) s l h v.1 in
      let pz : part-read b (suc l) z (next a) j = whole (suc l) z (next a) j (goes f) (stops-up l (kind j) st) (ends-up l (kind j) st (omega arith)) (some-depth z) b (omega arith) in
      let t1 = token s a h (λ e. is-no-end w e) in let s1 = shorter f in
      goes-on b m n floor l l os x (form x z (span (start i) j)) i a j y (goes d) (omega arith) fl (omega arith) n1 g1 fu (omega arith)
      (operator-is (suc b) (expr b) (start i) (deep x) a w h ∙ infixed-is (suc b) (expr b) (suc l) form (start i) x z a j dd pz dep) c
  goes (not {x = x} {i = i} {j = j} h d) b m n floor os y dep fl st fu c =
      let px : part-read b 3 x (next i) j = whole 3 x (next i) j (goes d) st (ends 3 (kind j) st (omega arith) (not-three (kind j))) (some-depth x) b (omega arith) in
      let t1 = token k.Not i h (λ e. cc) in let s1 = shorter d in
      goes-first b m n floor 3 os k.Not (Not x (span (start i) j)) i j y h (λ e. cc) begin-kinds.0 fl (omega arith)
      (head-is (suc b) (expr b) i k.Not h ∙ prefixed-is (suc b) (expr b) 3 Not x i j refl px dep) c
  goes (not_in {x = x} {y = z} {i = i} {a = a} {j = j} d h g f) b m n floor os y dep fl st fu c =
      let n1 = level-at needs (kind a) k.Not 4 h needed-kinds.1 in let g1 = level-at gives (kind a) k.Not 4 h given-kinds.1 in
      let pz : part-read b 5 z (next (next a)) j = whole 5 z (next (next a)) j (goes f) (stops-up 4 (kind j) st) (ends-up 4 (kind j) st (omega arith)) (some-depth z) b (omega arith) in
      let t1 = token k.Not a h (λ e. cc) in let t2 = token k.In (next a) g (λ e. cc) in let s1 = shorter f in
      goes-on b m n floor 4 4 os x (Not (Binary binary.In x z (span (start i) j)) (span (start i) j)) i a j y (goes d) (omega arith) fl (omega arith) n1 g1 fu (omega arith)
      (not_in-is (suc b) (expr b) (start i) x z a j h g pz dep) c
  goes (minus {x = x} {i = i} {j = j} h d) b m n floor os y dep fl st fu c =
      let px : part-read b 8 x (next i) j = whole 8 x (next i) j (goes d) st (ends 8 (kind j) st (omega arith) (not-eight (kind j))) (some-depth x) b (omega arith) in
      let t1 = token k.Minus i h (λ e. cc) in let s1 = shorter d in
      goes-first b m n floor 8 os k.Minus (Negate x (span (start i) j)) i j y h (λ e. cc) begin-kinds.1 fl (omega arith)
      (head-is (suc b) (expr b) i k.Minus h ∙ prefixed-is (suc b) (expr b) 8 Negate x i j refl px dep) c
  goes (power {x = x} {y = z} {i = i} {a = a} {j = j} d h f) b m n floor os y dep fl st fu c =
      let n1 = level-at needs (kind a) k.Power 10 h needed-kinds.4 in let g1 = level-at gives (kind a) k.Power 9 h given-kinds.4 in
      let st8 = eight-of-nine (kind j) st in
      let pz : part-read b 8 z (next a) j = whole 8 z (next a) j (goes f) st8 (ends 8 (kind j) st8 (omega arith) (not-eight (kind j))) (some-depth z) b (omega arith) in
      let t1 = token k.Power a h (λ e. cc) in let s1 = shorter f in
      goes-on b m n floor 10 9 os x (Binary binary.Power x z (span (start i) j)) i a j y (goes d) (omega arith) fl (omega arith) n1 g1 fu (omega arith)
      (power-is (suc b) (expr b) (start i) x z a j h pz dep) c
  goes (test {x = x} {all = all} {i = i} {a = a} {j = j} d h g q) b m n floor os y dep fl st fu c =
      let n1 = level-at needs (kind a) k.Is 4 h needed-kinds.2 in let g1 = level-at gives (kind a) k.Is 4 h given-kinds.2 in
      let t1 = token k.Is a h (λ e. cc) in let t2 = word-left (next a) (test-name (kind (next a)) g).0 in let s1 = shorter-given q in
      goes-on b m n floor 4 4 os x (Test x (text (next a)) all (span (start i) j)) i a j y (goes d) (omega arith) fl (omega arith) n1 g1 fu (omega arith)
      (test-is (suc b) (expr b) (start i) x all a j h g (goes-given q b (omega arith)) dep) c
  goes (not_test {x = x} {all = all} {i = i} {a = a} {j = j} d h f g q) b m n floor os y dep fl st fu c =
      let n1 = level-at needs (kind a) k.Is 4 h needed-kinds.2 in let g1 = level-at gives (kind a) k.Is 4 h given-kinds.2 in
      let t1 = token k.Is a h (λ e. cc) in let t2 = token k.Not (next a) f (λ e. cc) in
      let t3 = word-left (next (next a)) (test-name (kind (next (next a))) g).0 in let s1 = shorter-given q in
      goes-on b m n floor 4 4 os x (Not (Test x (text (next (next a))) all (span (start i) j)) (span (start i) j)) i a j y (goes d) (omega arith) fl (omega arith) n1 g1 fu (omega arith)
      (not_test-is (suc b) (expr b) (start i) x all a j h f g (goes-given q b (omega arith)) dep) c
  goes (filter {x = x} {all = all} {i = i} {a = a} {j = j} d h g q) b m n floor os y dep fl st fu c =
      let n1 = level-at needs (kind a) k.Bar 10 h needed-kinds.3 in let g1 = level-at gives (kind a) k.Bar 10 h given-kinds.3 in
      let t1 = token k.Bar a h (λ e. cc) in let t2 = word-left (next a) g in let s1 = shorter-given q in
      goes-on b m n floor 10 10 os x (Filter x (text (next a)) all (span (start i) j)) i a j y (goes d) (omega arith) fl (omega arith) n1 g1 fu (omega arith)
      (filter-is (suc b) (expr b) (start i) x all a j h g (goes-given q b (omega arith)) dep) c
  goes (attribute {s = s} {optional = optional} {x = x} {i = i} {a = a} w d h g) b m n floor os y dep fl st fu c =
      let v = dot-needs w in
      let n1 = level-at needs (kind a) s 11 h v.0 in let g1 = level-at gives (kind a) s 11 h v.1 in
      let t1 = token s a h v.2 in let t2 = word-left (next a) g in
      goes-on b m n floor 11 11 os x (Attribute x (text (next a)) optional (span (start i) (next (next a)))) i a (next (next a)) y (goes d) (omega arith) fl (omega arith) n1 g1 fu (omega arith)
      (attribute-is (suc b) (expr b) w (start i) x a h g dep) c
  goes (index {s = s} {optional = optional} {x = x} {y = z} {i = i} {a = a} {b = v} w d h f g) b m n floor os y dep fl st fu c =
      let u = bracket-needs w in
      let n1 = level-at needs (kind a) s 11 h u.0 in let g1 = level-at gives (kind a) s 11 h u.1 in
      let n2 = level-at needs (kind v) k.RightBracket 12 g closing-kinds.2 in
      let t1 = token s a h u.2 in let t2 = token k.RightBracket v g (λ e. cc) in let s1 = shorter f in
      goes-on b m n floor 11 11 os x (Index x z optional (span (start i) (next v))) i a (next v) y (goes d) (omega arith) fl (omega arith) n1 g1 fu (omega arith)
      (index-is (suc b) (expr b) w (start i) x z a v h
      (part-some (suc b) (expr b) z (next a) v (starts-so f).2 (starts-so f).0 (whole 0 z (next a) v (goes f) (inr (omega arith)) (inr (omega arith)) (some-depth z) b (omega arith))) g dep) c
  goes (slice {s = s} {optional = optional} {x = x} {from = p} {to = q} {by = t} {i = i} {a = a} {b = v} {c = e} {d = o} w d h f g f2 f3 l) b m n floor os y dep fl st fu c =
      let u = bracket-needs w in
      let n1 = level-at needs (kind a) s 11 h u.0 in let g1 = level-at gives (kind a) s 11 h u.1 in
      let t1 = token s a h u.2 in let t2 = token k.Colon v g (λ e. cc) in let t3 = token k.RightBracket o l (λ e. cc) in
      let s1 = shorter-part f in let s2 = shorter-part f2 in let s3 = shorter-step f3 in
      goes-on b m n floor 11 11 os x (Slice x p q t optional (span (start i) (next o))) i a (next o) y (goes d) (omega arith) fl (omega arith) n1 g1 fu (omega arith)
      (slice-is (suc b) (expr b) w (start i) x p q t a v e o h (goes-part f (inl g) (suc b) b (omega arith)) (differ k.RightBracket k.Colon (kind v) g (λ e. cc)) g
      (goes-part f2 (step-begins f3 l) (suc b) b (omega arith)) (goes-step f3 l (suc b) b (omega arith)) l dep) c
  goes (int {z = z} {i = i} h e) b m n floor os y dep fl st fu c =
      goes-leaf k.Int (Integer z (span (start i) (next i))) i h (λ e. cc) (λ e. cc) begin-kinds.2 (λ b. int-is (suc b) (expr b) z i e (omega arith)) b m n floor os y dep fl st fu c
  goes (quoted {t = t} {i = i} h e) b m n floor os y dep fl st fu c =
      goes-leaf k.Text (Text t (span (start i) (next i))) i h (λ e. cc) (λ e. cc) begin-kinds.8 (λ b. quoted-is (suc b) (expr b) t i e (omega arith)) b m n floor os y dep fl st fu c
  goes (is_true {i = i} h) b m n floor os y dep fl st fu c =
      goes-leaf k.True (Boolean true (span (start i) (next i))) i h (λ e. cc) (λ e. cc) begin-kinds.5 (λ b. deep-node (suc b) 0 (Boolean true (span (start i) (next i))) (next i) (omega arith) refl) b m n floor os y dep fl st fu c
  goes (is_false {i = i} h) b m n floor os y dep fl st fu c =
      goes-leaf k.False (Boolean false (span (start i) (next i))) i h (λ e. cc) (λ e. cc) begin-kinds.6 (λ b. deep-node (suc b) 0 (Boolean false (span (start i) (next i))) (next i) (omega arith) refl) b m n floor os y dep fl st fu c
  goes (nothing {i = i} h) b m n floor os y dep fl st fu c =
      goes-leaf k.Nothing (Nothing (span (start i) (next i))) i h (λ e. cc) (λ e. cc) begin-kinds.7 (λ b. deep-node (suc b) 0 (Nothing (span (start i) (next i))) (next i) (omega arith) refl) b m n floor os y dep fl st fu c
  goes (name {i = i} h e f) b m n floor os y dep fl st fu c =
      goes-leaf k.Name (Name (text i) (span (start i) (next i))) i h (λ e. cc) (λ e. cc) begin-kinds.3
      (λ b. ap (λ o. r.name_by (suc b) (expr b) o i) e ∙ rw f (deep-node (suc b) 0 (Name (text i) (span (start i) (next i))) (next i) (omega arith) refl)) b m n floor os y dep fl st fu c
  goes (of_loop {n = word} {i = i} h e) b m n floor os y dep fl st fu c =
      let t1 = shorter (of_loop h e) in
      goes-first b m n floor 11 os k.Name (Name word (span (start i) (behind_loop i))) i (behind_loop i) y h (λ e. cc) begin-kinds.3 fl (omega arith)
      (head-is (suc b) (expr b) i k.Name h ∙ ap (λ o. r.name_by (suc b) (expr b) o i) e ∙ deep-node (suc b) 0 (Name word (span (start i) (behind_loop i))) (behind_loop i) (omega arith) refl) c
  goes (call {all = all} {i = i} {a = a} h e d g) b m n floor os y dep fl st fu c =
      let t1 = shorter (call h e d g) in
      let v = call-depth (text i) all (span (start i) (next a)) in
      goes-first b m n floor 11 os k.Name (call_form (text i) all (span (start i) (next a))) i (next a) y h (λ e. cc) begin-kinds.3 fl (omega arith)
      (head-is (suc b) (expr b) i k.Name h ∙ ap (λ o. r.name_by (suc b) (expr b) o i) (called_no_loop i e)
      ∙ rw e (call-is (suc b) (expr b) all i a (goes-arguments d g b (left (next (next i))) (omega arith) (omega arith)) dep)) c
  goes (component {xs = xs} {i = i} {a = a} h w d g) b m n floor os y dep fl st fu c =
      let t1 = token k.Less i h (λ e. cc) in let t2 = word-left (next i) w in let t3 = token k.TagEnd a g (λ e. cc) in let s1 = shorter-attributes d in
      goes-first b m n floor 11 os k.Less (Component (text (next i)) xs (span (start i) (next a))) i (next a) y h (λ e. cc) begin-kinds.10 fl (omega arith)
      (head-is (suc b) (expr b) i k.Less h ∙ component-is (suc b) (expr b) xs i a w
      (goes-attributes d (ends-attributes (kind a) (inl g)) (suc b) b (left (next (next i))) NoEntries 0 (omega arith) (omega arith) ∙ got-first (entries_depth xs) a) g dep) c
  goes (parentheses {x = x} {i = i} {a = a} h d g) b m n floor os y dep fl st fu c =
      let n1 = level-at needs (kind a) k.RightParenthesis 12 g closing-kinds.1 in
      let t1 = next-left k.LeftParenthesis i h (λ e. cc) in let t2 = next-left k.RightParenthesis a g (λ e. cc) in
      reading-open b m floor os i h
      ∙ goes d b m (suc n) floor (start i ∷ os) y dep (omega arith) (inr (omega arith)) (omega arith)
      (close (suc b) (expr b) n floor 0 (start (next i)) (start i) os (deep x) a y g (omega arith) c)
  goes (array {xs = xs} {i = i} {a = a} h d g) b m n floor os y dep fl st fu c =
      let t1 = token k.LeftBracket i h (λ e. cc) in let t2 = token k.RightBracket a g (λ e. cc) in let s1 = shorter-all d in
      goes-first b m n floor 11 os k.LeftBracket (Array xs (span (start i) (next a))) i (next a) y h (λ e. cc) begin-kinds.4 fl (omega arith)
      (head-is (suc b) (expr b) i k.LeftBracket h ∙ goes-array d g b (start i) dep) c
  goes (comprehension {x = x} {target = z} {key = key} {called = word} {only = p} {i = i} {a = a} {b = v} {c = u} {d = e} h d f w t q g) b m n floor os y dep fl st fu c =
      let n1 = level-at needs (kind a) k.For 12 f closing-kinds.7 in
      let en = ends-target (kind u) (condition-begins q g) in
      let be = starts-so d in
      let px : part-read b 0 x (next i) a = whole 0 x (next i) a (goes d) (inr (omega arith)) (inr (omega arith)) (some-depth x) b (omega arith) in
      let pz : part-read b 1 z v u = whole 1 z v u (goes t) en.0 en.1 (some-depth z) b (omega arith) in
      let s1 = shorter (comprehension h d f w t q g) in
      goes-first b m n floor 11 os k.LeftBracket (Comprehension x key word z p (span (start i) (next e))) i (next e) y h (λ e. cc) begin-kinds.4 fl (omega arith)
      (head-is (suc b) (expr b) i k.LeftBracket h
      ∙ comprehension-is (suc b) (expr b) x z key word p i a v u e be.0 (unlike k.Spread (kind (next i)) be.1) px f w pz (goes-condition q g (suc b) b (omega arith)) g dep) c
  goes (map {xs = xs} {i = i} {a = a} h d g) b m n floor os y dep fl st fu c =
      let t1 = token k.LeftBrace i h (λ e. cc) in let t2 = token k.RightBrace a g (λ e. cc) in let s1 = shorter-entries d in
      goes-first b m n floor 11 os k.LeftBrace (Map xs (span (start i) (next a))) i (next a) y h (λ e. cc) begin-kinds.9 fl (omega arith)
      (head-is (suc b) (expr b) i k.LeftBrace h ∙ map-is (suc b) (expr b) xs i a (goes-entries d g b (left (next i)) NoEntries 0 (omega arith) (omega arith) ∙ got-first (entries_depth xs) (next a)) dep) c

  -- the key of an entry, or its dots, and then its value
  goes-entry : {key : Option Key} {x : Expr} {i a : Input} → DerivesEntry key x i a → needs (kind a) ≡ 12 → (limit b : ℕ) → depth x ≤ b → (m : Input) × (r.entry_key i ≡ Some (key, m)) × (expr b 0 m ≡ Some (deep x, a))
  goes-entry (keyed {key = key} {x = x} {i = i} {j = a} e q d) h limit b le =
      (next (next i), key-is limit (expr b) key i e q, whole 0 x (next (next i)) a (goes d) (inr (omega arith)) (inr (omega arith)) (some-depth x) b le)
  goes-entry (spread_map {x = x} {i = i} {j = a} q d) h limit b le =
      (next i, dots-is limit (expr b) i q, whole 0 x (next i) a (goes d) (inr (omega arith)) (inr (omega arith)) (some-depth x) b le)

  goes-entries : {xs : Entries} {i a : Input} → DerivesEntries xs i a → kind a ≡ k.RightBrace → (b n : ℕ) (found : Entries) (d : ℕ) → entries_depth xs ≤ b → left i ≤ n
      → r.entries_from (suc b) (expr b) n found d i ≡ Some ((join_entries found xs, max d (entries_depth xs)), next a)
  goes-entries (no_entries {i = i}) g b zero found d le fu = let t1 = token k.RightBrace i g (λ e. cc) in absurd (omega arith)
  goes-entries (no_entries {i = i}) g b (suc n) found d le fu = entry-none (suc b) (expr b) n found d i g ∙ got-none d (next i) (join-no-entries found)
  goes-entries (one_entry {key = s} {x = x} {i = i} {j = a} q) g b zero found d le fu = let s1 = shorter-entry q in absurd (omega arith)
  goes-entries (one_entry {key = s} {x = x} {i = i} {j = a} q) g b (suc n) found d le fu =
      let n1 = level-at needs (kind a) k.RightBrace 12 g closing-kinds.6 in
      let w = goes-entry q n1 (suc b) b (omega arith) in
      entry-one (suc b) (expr b) n found d s x i w.0 a (entry-starts q) w.1 w.2 g ∙ got-one d (depth x) (next a)
  goes-entries (more_entries {key = s} {x = x} {xs = xs} {i = i} {a = v} {j = a} q h u) g b zero found d le fu = let s1 = shorter-entry q in absurd (omega arith)
  goes-entries (more_entries {key = s} {x = x} {xs = xs} {i = i} {a = v} {j = a} q h u) g b (suc n) found d le fu =
      let n1 = level-at needs (kind v) k.Comma 12 h closing-kinds.3 in
      let s1 = shorter-entry q in let t1 = token k.Comma v h (λ e. cc) in
      let w = goes-entry q n1 (suc b) b (omega arith) in
      entry-more (suc b) (expr b) n found d s x i w.0 v (Some ((join_entries found (MoreEntries s x xs), max d (entries_depth (MoreEntries s x xs))), next a)) (entry-starts q) w.1 w.2 h
      (goes-entries u g b n (join_entries found (r.one_entry s x)) (max d (depth x)) (omega arith) (omega arith) ∙ got-more d (depth x) (entries_depth xs) (next a) (join-entries found (r.one_entry s x) xs))

  -- the value of an attribute, as the attribute has it
  goes-value : {x : Expr} {i a : Input} → DerivesValue x i a → (limit b : ℕ) → depth x ≤ b → r.attribute_value limit (expr b) i ≡ Some (deep x, a)
  goes-value (text_value {t = t} {i = i} h e) limit b le = text-is limit (expr b) t i h e
  goes-value (braced_value {x = x} {i = i} {a = a} h d g) limit b le =
      let n1 = level-at needs (kind a) k.RightBrace 12 g closing-kinds.6 in
      value-is limit (expr b) x i a h (whole 0 x (next i) a (goes d) (inr (omega arith)) (inr (omega arith)) (some-depth x) b le) g

  goes-attribute : {key : Option Key} {x : Expr} {i a : Input} → DerivesAttribute key x i a → (limit b : ℕ) → depth x ≤ b → (found : Entries)
      → r.any_attribute limit (expr b) found i ≡ Some ((join_entries found (r.one_entry key x), depth x), a)
  goes-attribute (named_attribute {x = x} {i = i} {j = a} h q v) limit b le found = named-is limit (expr b) found x i a h q (goes-value v limit b le)
  goes-attribute (spread_attribute {x = x} {i = i} {a = a} h q d g) limit b le found =
      let n1 = level-at needs (kind a) k.RightBrace 12 g closing-kinds.6 in
      spread-is limit (expr b) found x i a h q (whole 0 x (next (next i)) a (goes d) (inr (omega arith)) (inr (omega arith)) (some-depth x) b le) g

  -- attributes are read behind others, where none follows
  pub goes-attributes : {xs : Entries} {i a : Input} → DerivesAttributes xs i a → begins_attribute (kind a) ≡ false → (limit b n : ℕ) (found : Entries) (d : ℕ) → entries_depth xs ≤ b → left i ≤ n
      → r.attributes_from limit (expr b) n found d i ≡ Some ((join_entries found xs, max d (entries_depth xs)), a)
  goes-attributes (no_attributes {i = i}) g limit b n found d le fu = attributes-stop limit (expr b) n found d i g ∙ got-none d i (join-no-entries found)
  goes-attributes (more_attributes q u) g limit b zero found d le fu = let s1 = shorter-attribute q in absurd (omega arith)
  goes-attributes (more_attributes {key = s} {x = x} {xs = xs} {i = i} {a = v} {j = a} q u) g limit b (suc n) found d le fu =
      let s1 = shorter-attribute q in
      attributes-more limit (expr b) n found d (join_entries found (r.one_entry s x), depth x) i v (Some ((join_entries found (MoreEntries s x xs), max d (entries_depth (MoreEntries s x xs))), a)) (attribute-begins q)
      (goes-attribute q limit b (omega arith) found)
      (goes-attributes u g limit b n (join_entries found (r.one_entry s x)) (max d (depth x)) (omega arith) (omega arith) ∙ got-more d (depth x) (entries_depth xs) a (join-entries found (r.one_entry s x) xs))

  -- an argument is read, and put
  goes-argument : {found all : Arguments} {i a : Input} → DerivesArgument found all i a → needs (kind a) ≡ 12 → (limit b : ℕ) → arguments_depth all ≤ b
      → (d : ℕ) × (r.argument limit (expr b) found i ≡ Some ((all, d), a)) × (arguments_depth all ≡ max (arguments_depth found) d)
  goes-argument (argument {found = found} {all = all} {x = x} {i = i} {j = a} h q d e) n1 limit b le =
      let p = put-depth (text i) x found all e in
      (depth x, argument-is limit (expr b) found all x i a h q (whole 0 x (next (next i)) a (goes d) (inr (omega arith)) (inr (omega arith)) (some-depth x) b (omega arith)) e, p)

  goes-arguments : {found all : Arguments} {i a : Input} → DerivesArguments found all i a → kind a ≡ k.RightParenthesis → (b n : ℕ) → arguments_depth all ≤ b → left i ≤ n
      → r.arguments_from (suc b) (expr b) n found (arguments_depth found) i ≡ Some ((all, arguments_depth all), next a)
  goes-arguments (no_arguments {i = i}) g b zero le fu = let t1 = token k.RightParenthesis i g (λ e. cc) in absurd (omega arith)
  goes-arguments (no_arguments {found = found} {i = i}) g b (suc n) le fu = arguments-none (suc b) (expr b) n found (arguments_depth found) i g
  goes-arguments (one_argument q) g b zero le fu = let s1 = shorter-argument q in absurd (omega arith)
  goes-arguments (one_argument {found = found} {all = all} {i = i} {j = a} q) g b (suc n) le fu =
      let n1 = level-at needs (kind a) k.RightParenthesis 12 g closing-kinds.1 in
      let w = goes-argument q n1 (suc b) b le in
      arguments-one (suc b) (expr b) n found (arguments_depth found) (all, w.0) i a (argument-starts q) w.1 g ∙ ap (λ m. Some ((all, m), next a)) (sym w.2)
  goes-arguments (more_arguments q h u) g b zero le fu = let s1 = shorter-argument q in absurd (omega arith)
  goes-arguments (more_arguments {found = found} {with_it = with_it} {all = all} {i = i} {a = v} {j = a} q h u) g b (suc n) le fu =
      let n1 = level-at needs (kind v) k.Comma 12 h closing-kinds.3 in
      let s1 = shorter-argument q in let t1 = token k.Comma v h (λ e. cc) in
      let p = grown u in
      let w = goes-argument q n1 (suc b) b (omega arith) in
      arguments-more (suc b) (expr b) n found (arguments_depth found) (with_it, w.0) i v (Some ((all, arguments_depth all), next a)) (argument-starts q) w.1 h
      (ap (λ m. r.arguments_from (suc b) (expr b) n with_it m (next v)) (sym w.2) ∙ goes-arguments u g b n le (omega arith))

  pub goes-given : {all : Arguments} {i a : Input} → DerivesGiven all i a → (b : ℕ) → arguments_depth all ≤ b → r.optional_arguments (suc b) (expr b) i ≡ Some ((all, arguments_depth all), a)
  goes-given (not_given {i = i} h) b le = given-none (suc b) (expr b) i h
  goes-given (given {i = i} {a = a} h d g) b le = given-some (suc b) (expr b) i h ∙ goes-arguments d g b (left (next i)) le (omega arith)

  -- a bound is read, where a colon or a bracket follows
  goes-part : {o : Optional} {i a : Input} → DerivesPart o i a → (kind a ≡ k.Colon) ⊎ (kind a ≡ k.RightBracket) → (limit b : ℕ) → optional_depth o ≤ b → r.part limit (expr b) i ≡ Some ((o, optional_depth o), a)
  goes-part (absent {i = i}) (inl h) limit b le = part-colon limit (expr b) i h
  goes-part (absent {i = i}) (inr h) limit b le = part-bracket limit (expr b) i h
  goes-part (present {x = x} {i = i} {j = a} d) h limit b le =
      let n1 = ends-bound (kind a) h in
      let w = starts-so d in
      part-some limit (expr b) x i a w.2 w.0 (whole 0 x i a (goes d) (inr (omega arith)) (inr (omega arith)) (some-depth x) b le)

  goes-step : {o : Optional} {i a : Input} → DerivesStep o i a → kind a ≡ k.RightBracket → (limit b : ℕ) → optional_depth o ≤ b → r.step limit (expr b) i ≡ Some ((o, optional_depth o), a)
  goes-step (no_step {i = i}) h limit b le = step-none limit (expr b) i h
  goes-step (step {i = i} q f) h limit b le = step-some limit (expr b) i q ∙ goes-part f (inr h) limit b le

  -- an item is read behind its dots, where no operator follows
  goes-item : {s : Bool} {x : Expr} {i a : Input} → DerivesItem s x i a → needs (kind a) ≡ 12 → (b : ℕ) → depth x ≤ b → expr b 0 (behind_dots i) ≡ Some (deep x, a)
  goes-item (plain {x = x} {i = i} {j = a} d) h b le =
      let e : behind_dots i ≡ i = rw (unlike k.Spread (kind i) (starts-so d).1) refl in
      ap (expr b 0) e ∙ whole 0 x i a (goes d) (inr (omega arith)) (inr (omega arith)) (some-depth x) b le
  goes-item (spread {x = x} {i = i} {j = a} q d) h b le =
      let e : behind_dots i ≡ next i = rw (alike k.Spread (kind i) q) refl in
      ap (expr b 0) e ∙ whole 0 x (next i) a (goes d) (inr (omega arith)) (inr (omega arith)) (some-depth x) b le

  goes-condition : {o : Optional} {i a : Input} → DerivesCondition o i a → kind a ≡ k.RightBracket → (limit b : ℕ) → optional_depth o ≤ b → r.condition limit (expr b) i ≡ Some ((o, optional_depth o), a)
  goes-condition (no_condition {i = i}) h limit b le = no-condition-is limit (expr b) i h
  goes-condition (condition {x = x} {i = i} {j = a} q d) h limit b le =
      let en = ends-target (kind a) (inr h) in
      condition-is limit (expr b) x i a q (whole 1 x (next i) a (goes d) en.0 en.1 (some-depth x) b le)

  goes-array : {xs : Items} {i a : Input} → DerivesItems xs i a → kind a ≡ k.RightBracket → (b from : ℕ) → depth (Array xs (span from (next a))) ≤ suc b
      → r.brackets (suc b) (expr b) from i ≡ Some (deep (Array xs (span from (next a))), next a)
  goes-array (none {i = i}) g b from le = empty-is (suc b) (expr b) from i g (omega arith)
  goes-array (one {s = s} {x = x} {i = i} {j = a} q) g b from le =
      let n1 = level-at needs (kind a) k.RightBracket 12 g closing-kinds.2 in
      let w = item-starts q in
      array-is (suc b) (expr b) from s x (MoreItems s x NoItems) i a (next a) w.0 w.1 (goes-item q n1 b (omega arith)) (differ k.For k.RightBracket (kind a) g (λ e. cc))
      (behind-last (suc b) (expr b) (one_item s x) (depth x) a g ∙ got-none (depth x) (next a) refl) le
  goes-array (more {s = s} {x = x} {xs = xs} {i = i} {a = v} {j = a} q h t) g b from le =
      let n1 = level-at needs (kind v) k.Comma 12 h closing-kinds.3 in
      let w = item-starts q in
      array-is (suc b) (expr b) from s x (MoreItems s x xs) i v (next a) w.0 w.1 (goes-item q n1 b (omega arith)) (differ k.For k.Comma (kind v) h (λ e. cc))
      (behind-comma (suc b) (expr b) (one_item s x) (depth x) v h ∙ goes-all t g b (left (next v)) (one_item s x) (depth x) (omega arith) (omega arith)) le

  goes-all : {xs : Items} {i a : Input} → DerivesItems xs i a → kind a ≡ k.RightBracket → (b n : ℕ) (found : Items) (d : ℕ) → items_depth xs ≤ b → left i ≤ n
      → r.items_from (suc b) (expr b) n found d i ≡ Some ((join_items found xs, max d (items_depth xs)), next a)
  goes-all (none {i = i}) g b zero found d le fu = let t1 = token k.RightBracket i g (λ e. cc) in absurd (omega arith)
  goes-all (none {i = i}) g b (suc n) found d le fu = item-none (suc b) (expr b) n found d i g ∙ got-none d (next i) (join-none found)
  goes-all (one {s = s} {x = x} {i = i} {j = a} q) g b zero found d le fu = let s1 = shorter-item q in absurd (omega arith)
  goes-all (one {s = s} {x = x} {i = i} {j = a} q) g b (suc n) found d le fu =
      let n1 = level-at needs (kind a) k.RightBracket 12 g closing-kinds.2 in
      let w = item-starts q in
      item-one (suc b) (expr b) n found d s x i a w.0 w.1 (goes-item q n1 b (omega arith)) g ∙ got-one d (depth x) (next a)
  goes-all (more {s = s} {x = x} {xs = xs} {i = i} {a = v} {j = a} q h w) g b zero found d le fu = let s1 = shorter-item q in absurd (omega arith)
  goes-all (more {s = s} {x = x} {xs = xs} {i = i} {a = v} {j = a} q h w) g b (suc n) found d le fu =
      let n1 = level-at needs (kind v) k.Comma 12 h closing-kinds.3 in
      let s1 = shorter-item q in let t1 = token k.Comma v h (λ e. cc) in
      let u = item-starts q in
      item-more (suc b) (expr b) n found d s x i v (Some ((join_items found (MoreItems s x xs), max d (items_depth (MoreItems s x xs))), next a)) u.0 u.1
      (goes-item q n1 b (omega arith)) h
      (goes-all w g b n (join_items found (one_item s x)) (max d (depth x)) (omega arith) (omega arith) ∙ got-more d (depth x) (items_depth xs) (next a) (join-join found (one_item s x) xs))

-- What is derived is read, where no operator follows.
pub complete : (x : Expr) (i j : Input) → Derives 0 x i j → kind j ≡ k.End → (b : ℕ) → depth x ≤ b → expr b 0 i ≡ Some (deep x, j)
complete x i j d h b le =
    let n1 = level-at needs (kind j) k.End 12 h closing-kinds.4 in
    whole 0 x i j (goes d) (inr (omega arith)) (inr (omega arith)) (some-depth x) b le
