-- Attributes of a component: what is read is derived, and how what is derived is read.
use Rattle.std.proofs.Common.{◌≡◌, ℕ, zero, suc, ◌+◌, ◌-◌, ◌<◌, ◌≤◌, ◌⊎◌, inl, inr, max, Bool, true, false, ◌||◌, Option, Some, None, if◌then◌else◌, refl, sym, ◌∙◌, ap, subst, arith}
use Rattle.tera_errors.specs.Site as site
use Rattle.tera_syntax_tree.specs.Tree.{Expr, Text, Component, Key, TextKey, Entries, NoEntries, MoreEntries}
use Rattle.tera_syntax_tree.specs.Depth.{depth, entries_depth}
use Rattle.tera_syntax_tokens.specs.declared.token.Kind.{Kind}
use Rattle.tera_syntax_tokens.specs.declared.token.Kind.TheVariants as k
use Rattle.tera_syntax_tokens.specs.Input.{Input, Parsed, Parser, and_then, same, kind, start, text, next, left, span, expect, is_word}
use Rattle.tera_syntax_tokens.specs.Literal.{literal}
use Rattle.tera_syntax_expressions.specs.Arguments.{argument_name, begins_attribute}
use Rattle.tera_syntax_expressions.specs.Grammar.{Derives, component, DerivesValue, text_value, braced_value, DerivesAttribute, named_attribute, spread_attribute, DerivesAttributes, no_attributes, more_attributes}
use Rattle.tera_syntax_expressions.specs.Expressions as r
use Rattle.tera_syntax_expressions.specs.Expressions.{Deep, deep, node, join_entries}
use Rattle.tera_syntax_expressions.proofs.Steps.{and_then-some, guard, chosen, same-is, expect-some, some-pair, either, differ, unlike, alike, same-value, node-got}
use Rattle.tera_syntax_expressions.proofs.Rows.{join-no-entries, join-entries}
use Rattle.tera_syntax_expressions.proofs.Forms.{deep-node, expects}
use Rattle.tera_syntax_expressions.proofs.ArgumentRows.{Reads, named-got}
use Rattle.tera_syntax_expressions.proofs.Rounds.{one_more}

-- no word is a brace
word-no-brace : (s : Kind) → is_word s ≡ true → same k.LeftBrace s ≡ false
unfolding is_word
word-no-brace s h = unlike k.LeftBrace s (λ e. let f : is_word k.LeftBrace ≡ true = ap is_word (sym e) ∙ h in cc)

or-true : (b : Bool) → (b || true) ≡ true
or-true true = refl
or-true false = refl

pub attribute-begins : {key : Option Key} {x : Expr} {i j : Input} → DerivesAttribute key x i j → begins_attribute (kind i) ≡ true
unfolding begins_attribute
attribute-begins (named_attribute h q v) = rw h refl
attribute-begins (spread_attribute {i = i} h q d g) = rw (alike k.LeftBrace (kind i) h) (or-true (is_word (kind i)))

-- what may stand behind the last attribute begins none
pub ends-attributes : (s : Kind) → (s ≡ k.TagEnd) ⊎ (s ≡ k.Greater) → begins_attribute s ≡ false
unfolding begins_attribute is_word
ends-attributes s (inl h) = ap begins_attribute h ∙ differ k.LeftBrace k.TagEnd k.TagEnd refl (λ e. cc)
ends-attributes s (inr h) = ap begins_attribute h ∙ differ k.LeftBrace k.Greater k.Greater refl (λ e. cc)

-- the rounds of the loop that reads them
module _ (limit : ℕ) (part : ℕ → Parser Deep) where
  abbrev pub attributes-behind : ℕ → ℕ → Entries × ℕ → Parser (Entries × ℕ)
  attributes-behind n d p = r.attributes_from limit part n p.0 (max d p.1)

  pub attributes-next : (n : ℕ) (found : Entries) (d : ℕ) (i : Input) → begins_attribute (kind i) ≡ true → r.attributes_from limit part (suc n) found d i ≡ and_then (r.any_attribute limit part found i) (attributes-behind n d)
  unfolding r.attributes_from
  attributes-next n found d i h = rw h refl

  pub attributes-stop : (n : ℕ) (found : Entries) (d : ℕ) (i : Input) → begins_attribute (kind i) ≡ false → r.attributes_from limit part n found d i ≡ Some ((found, d), i)
  unfolding r.attributes_from
  attributes-stop zero found d i h = refl
  attributes-stop (suc n) found d i h = rw h refl

  pub attributes-more : (n : ℕ) (found : Entries) (d : ℕ) (p : Entries × ℕ) (i a : Input) (y : Option ((Entries × ℕ) × Input)) → begins_attribute (kind i) ≡ true → r.any_attribute limit part found i ≡ Some (p, a)
      → r.attributes_from limit part n p.0 (max d p.1) a ≡ y → r.attributes_from limit part (suc n) found d i ≡ y
  attributes-more n found d p i a y h e q = attributes-next n found d i h ∙ ap (λ o. and_then o (attributes-behind n d)) e ∙ q

  -- a round of the loop that finds one
  pub attributes-round : {meant : Parsed (Entries × ℕ)} (n at : ℕ) (found : Entries) (d : ℕ) (i : Input) → at < n → meant ≡ r.attributes_from limit part (n - at) found d i → begins_attribute (kind i) ≡ true
      → {o : Parsed (Entries × ℕ)} → r.any_attribute limit part found i ≡ o → meant ≡ and_then o (attributes-behind (n - (at + 1)) d)
  attributes-round n at found d i lt round h e =
      one_more (λ n. r.attributes_from limit part n found d i) n at lt round ∙ attributes-next (n - (at + 1)) found d i h ∙ ap (λ o. and_then o (attributes-behind (n - (at + 1)) d)) e

  -- an attribute that was read, behind those that were found
  pub named_read : (found : Entries) (i m j : Input) (x : Deep) → argument_name i ≡ Some (text i, m) → r.attribute_value limit part m ≡ Some (x, j)
      → r.named_attribute limit part found i ≡ Some ((join_entries found (r.one_entry (Some (TextKey (text i))) x.expr), x.depth), j)
  unfolding r.named_attribute
  named_read found i m j x e f = rw (e, f) refl

  pub spread_read : (found : Entries) (i m j : Input) (done : Unit {0}) (x : Deep) → expect k.Spread i ≡ Some (done, m) → r.braced limit part m ≡ Some (x, j)
      → r.spread_attribute limit part found i ≡ Some ((join_entries found (r.one_entry None x.expr), x.depth), j)
  unfolding r.spread_attribute
  spread_read found i m j done x e f = rw (e, f) refl

-- what is read is derived
abbrev GotBraced : Input → Input → Deep → Type 0
GotBraced i j x = (a : Input) × (Derives 0 x.expr i a) × (kind a ≡ k.RightBrace) × (j ≡ next a) × (x.depth ≡ depth x.expr)

record GotAttribute (found : Entries) (i : Input) (z : Entries × ℕ) (j : Input) : Type 0 where
  key : Option Key
  value : Expr
  derived : DerivesAttribute key value i j
  joined : z.0 ≡ join_entries found (r.one_entry key value)
  deep : z.1 ≡ depth value

record GotAttributes (found : Entries) (d : ℕ) (i : Input) (z : Entries × ℕ) (j : Input) : Type 0 where
  entries : Entries
  derived : DerivesAttributes entries i j
  joined : z.0 ≡ join_entries found entries
  deep : z.1 ≡ max d (entries_depth entries)

abbrev some-value : Deep → Input → Option (Deep × Input)
some-value x i = Some (x, i)

none-got : (found : Entries) (d : ℕ) (i : Input) → GotAttributes found d i (found, d) i
none-got found d i = record { entries = NoEntries; derived = no_attributes; joined = sym (join-no-entries found); deep = omega arith }

more-got : (found : Entries) (d : ℕ) (i a j : Input) (y z : Entries × ℕ) → GotAttribute found i y a → GotAttributes y.0 (max d y.1) a z j → GotAttributes found d i z j
more-got found d i a j y z w v =
    let e = w.deep in let f = v.deep in
    record {
      entries = MoreEntries w.key w.value v.entries;
      derived = more_attributes w.derived v.derived;
      joined = v.joined ∙ ap (λ f. join_entries f v.entries) w.joined ∙ join-entries found (r.one_entry w.key w.value) v.entries;
      deep = omega (arith, e, f);
    }

module _ (limit : ℕ) (part : ℕ → Parser Deep) (reads : Reads part) where
  braced-got : (i j : Input) (x : Deep) → r.braced limit part i ≡ Some (x, j) → GotBraced i j x
  unfolding r.braced
  braced-got i j x h =
      let q = and_then-some (part 0 i) closed (x, j) h in
      let u = and_then-some (expect k.RightBrace q.1) (λ _. λ j. some-value q.0 j) (x, j) q.3 in
      let e = expect-some k.RightBrace q.1 u.1 u.0 u.2 in
      let s = some-pair (q.0, u.1) (x, j) u.3 in
      let d = reads i q.1 q.0 q.2 in
      let first : GotBraced i j q.0 = (q.1, d.0, e.0, sym s.1 ∙ e.1, d.1) in
      subst (GotBraced i j) s.0 first
    where
      closed : Deep → Parser Deep
      closed x a = and_then (expect k.RightBrace a) (λ _. λ j. some-value x j)

  text-got : (o : Option site.Text) (i j : Input) (x : Deep) → literal (text i) ≡ o → kind i ≡ k.Text → r.quoted_value limit part o i ≡ Some (x, j) → DerivesValue x.expr i j × (x.depth ≡ depth x.expr)
  text-got None i j x e h g = cc
  text-got (Some t) i j x e h g = same-value (λ x j. DerivesValue x.expr i j × (x.depth ≡ depth x.expr)) (deep (Text t (span (start i) (next i)))) x (next i) j g (text_value h e, refl)

  value-got : (i j : Input) (x : Deep) → r.attribute_value limit part i ≡ Some (x, j) → DerivesValue x.expr i j × (x.depth ≡ depth x.expr)
  unfolding r.attribute_value
  value-got i j x h =
      either (chosen (same k.LeftBrace (kind i)) (r.braced limit part (next i)) (if same k.Text (kind i) then r.quoted_value limit part (literal (text i)) i else None) (Some (x, j)) h)
      (λ q. let w = braced-got (next i) j x q.1 in (subst (DerivesValue x.expr i) (sym w.3) (braced_value (same-is k.LeftBrace (kind i) q.0) w.1 w.2), w.4))
      (λ q. let g = guard (same k.Text (kind i)) (r.quoted_value limit part (literal (text i)) i) (x, j) q.1 in
      text-got (literal (text i)) i j x refl (same-is k.Text (kind i) g.0) g.1)

  with-got : (found : Entries) (key : Option Key) (x : Deep) (i a j : Input) (z : Entries × ℕ) → DerivesAttribute key x.expr i a → x.depth ≡ depth x.expr → r.with_attribute limit part found key x a ≡ Some (z, j) → GotAttribute found i z j
  with-got found key x i a j z d e h =
      let made : Entries × ℕ = (join_entries found (r.one_entry key x.expr), x.depth) in
      let s = some-pair (made, a) (z, j) h in
      let first : GotAttribute found i made a = record { key = key; value = x.expr; derived = d; joined = refl; deep = e } in
      subst (λ z. GotAttribute found i z j) s.0 (subst (GotAttribute found i made) s.1 first)

  named-attribute-got : (found : Entries) (i j : Input) (z : Entries × ℕ) → r.named_attribute limit part found i ≡ Some (z, j) → GotAttribute found i z j
  unfolding r.named_attribute
  named-attribute-got found i j z h =
      let q = and_then-some (argument_name i) named (z, j) h in
      let n = named-got i q.1 q.0 q.2 in
      let t = and_then-some (r.attribute_value limit part q.1) (r.with_attribute limit part found (Some (TextKey q.0))) (z, j) q.3 in
      let w = value-got q.1 t.1 t.0 t.2 in
      let v : DerivesValue t.0.expr (next (next i)) t.1 = subst (λ m. DerivesValue t.0.expr m t.1) n.3 w.0 in
      with-got found (Some (TextKey (text i))) t.0 i t.1 j z (named_attribute n.0 n.1 v) w.1
      (subst (λ m. r.with_attribute limit part found (Some (TextKey m)) t.0 t.1 ≡ Some (z, j)) n.2 t.3)
    where
      named : site.Name → Parser (Entries × ℕ)
      named n m = and_then (r.attribute_value limit part m) (r.with_attribute limit part found (Some (TextKey n)))

  spread-attribute-got : (found : Entries) (i j : Input) (z : Entries × ℕ) → kind i ≡ k.LeftBrace → r.spread_attribute limit part found (next i) ≡ Some (z, j) → GotAttribute found i z j
  unfolding r.spread_attribute
  spread-attribute-got found i j z g h =
      let q = and_then-some (expect k.Spread (next i)) (λ _. spread) (z, j) h in
      let u = expect-some k.Spread (next i) q.1 q.0 q.2 in
      let t = and_then-some (r.braced limit part q.1) (r.with_attribute limit part found None) (z, j) q.3 in
      let w = braced-got q.1 t.1 t.0 t.2 in
      let d : Derives 0 t.0.expr (next (next i)) w.0 = subst (λ m. Derives 0 t.0.expr m w.0) u.1 w.1 in
      with-got found None t.0 i t.1 j z (subst (DerivesAttribute None t.0.expr i) (sym w.3) (spread_attribute g u.0 d w.2)) w.4 t.3
    where
      spread : Parser (Entries × ℕ)
      spread m = and_then (r.braced limit part m) (r.with_attribute limit part found None)

  any-got : (found : Entries) (i j : Input) (z : Entries × ℕ) → r.any_attribute limit part found i ≡ Some (z, j) → GotAttribute found i z j
  unfolding r.any_attribute
  any-got found i j z h =
      either (chosen (same k.LeftBrace (kind i)) (r.spread_attribute limit part found (next i)) (r.named_attribute limit part found i) (Some (z, j)) h)
      (λ q. spread-attribute-got found i j z (same-is k.LeftBrace (kind i) q.0) q.1)
      (λ q. named-attribute-got found i j z q.1)

  ended : (found : Entries) (d : ℕ) (i j : Input) (z : Entries × ℕ) → r.attributes_from limit part 0 found d i ≡ Some (z, j) → GotAttributes found d i z j
  unfolding r.attributes_from
  ended found d i j z h =
      let s = some-pair ((found, d), i) (z, j) h in
      subst (λ z. GotAttributes found d i z j) s.0 (subst (GotAttributes found d i (found, d)) s.1 (none-got found d i))

  attributes-got : (n : ℕ) (found : Entries) (d : ℕ) (i j : Input) (z : Entries × ℕ) → r.attributes_from limit part n found d i ≡ Some (z, j) → GotAttributes found d i z j
  unfolding r.attributes_from
  attributes-got zero found d i j z h = ended found d i j z h
  attributes-got (suc n) found d i j z h =
      either (chosen (begins_attribute (kind i)) (and_then (r.any_attribute limit part found i) (attributes-behind limit part n d)) (Some ((found, d), i)) (Some (z, j)) h)
      (λ q. let t = and_then-some (r.any_attribute limit part found i) (attributes-behind limit part n d) (z, j) q.1 in
      more-got found d i t.1 j t.0 z (any-got found i t.1 t.0 t.2) (attributes-got n t.0.0 (max d t.0.1) t.1 j z t.3))
      (λ q. ended found d i j z q.1)

  -- attributes from the first on
  pub all-attributes-got : (n : ℕ) (i j : Input) (z : Entries × ℕ) → r.attributes_from limit part n NoEntries 0 i ≡ Some (z, j) → DerivesAttributes z.0 i j × (z.1 ≡ entries_depth z.0)
  all-attributes-got n i j z h =
      let w = attributes-got n NoEntries 0 i j z h in
      let e : w.entries ≡ z.0 = sym w.joined in
      let d = w.deep in
      let P : Entries → Type 0 = λ xs. DerivesAttributes xs i j × (z.1 ≡ entries_depth xs) in
      subst P e (w.derived, omega (arith, d))

  pub component-got : (P : Deep → Input → Type 0) (i j : Input) (y : Deep) → kind i ≡ k.Less → ((x : Expr) (j : Input) → Derives 11 x i j → depth x ≤ limit → P (deep x) j) → r.component limit part i ≡ Some (y, j) → P y j
  unfolding r.component r.component_of
  component-got P i j y h build hh =
      let o = next i in
      let g = guard (is_word (kind o)) (and_then (r.attributes_from limit part (left (next o)) NoEntries 0 (next o)) shut) (y, j) hh in
      let q = and_then-some (r.attributes_from limit part (left (next o)) NoEntries 0 (next o)) shut (y, j) g.1 in
      let w = all-attributes-got (left (next o)) (next o) q.1 q.0 q.2 in
      let u = and_then-some (expect k.TagEnd q.1) (λ _. λ j. node limit q.0.1 (made q.0.0 j) j) (y, j) q.3 in
      let e = expect-some k.TagEnd q.1 u.1 u.0 u.2 in
      let d = w.1 in
      let Q : Input → Type 0 = λ c. depth (made q.0.0 c) ≤ limit → P (deep (made q.0.0 c)) c in
      node-got P limit q.0.1 (made q.0.0 u.1) u.1 j y u.3 (omega (arith, d))
      (λ ok. subst Q (sym e.1) (λ ok. build (made q.0.0 (next q.1)) (next q.1) (component h g.0 w.0 e.0) ok) ok)
    where
      made : Entries → Input → Expr
      made xs c = Component (text (next i)) xs (span (start i) c)

      shut : Entries × ℕ → Parser Deep
      shut xs a = and_then (expect k.TagEnd a) (λ _. λ j. node limit xs.1 (made xs.0 j) j)

-- what is derived is read
module _ (limit : ℕ) (part : ℕ → Parser Deep) where
  pub text-is : (t : site.Text) (i : Input) → kind i ≡ k.Text → literal (text i) ≡ Some t → r.attribute_value limit part i ≡ Some (deep (Text t (span (start i) (next i))), next i)
  unfolding r.attribute_value
  text-is t i h e = rw (differ k.LeftBrace k.Text (kind i) h (λ e. cc), alike k.Text (kind i) h, e) refl

  pub braced-is : (x : Expr) (i a : Input) → part 0 i ≡ Some (deep x, a) → kind a ≡ k.RightBrace → r.braced limit part i ≡ Some (deep x, next a)
  unfolding r.braced
  braced-is x i a e g = rw (e, expects limit part k.RightBrace a g) refl

  pub value-is : (x : Expr) (i a : Input) → kind i ≡ k.LeftBrace → part 0 (next i) ≡ Some (deep x, a) → kind a ≡ k.RightBrace → r.attribute_value limit part i ≡ Some (deep x, next a)
  unfolding r.attribute_value
  value-is x i a h e g = rw (alike k.LeftBrace (kind i) h) (braced-is x (next i) a e g)

  pub named-is : (found : Entries) (x : Expr) (i j : Input) → is_word (kind i) ≡ true → kind (next i) ≡ k.Assign → r.attribute_value limit part (next (next i)) ≡ Some (deep x, j)
      → r.any_attribute limit part found i ≡ Some ((join_entries found (r.one_entry (Some (TextKey (text i))) x), depth x), j)
  unfolding r.any_attribute r.named_attribute argument_name expect
  named-is found x i j h q e = rw (word-no-brace (kind i) h, h, alike k.Assign (kind (next i)) q, e) refl

  pub spread-is : (found : Entries) (x : Expr) (i a : Input) → kind i ≡ k.LeftBrace → kind (next i) ≡ k.Spread → part 0 (next (next i)) ≡ Some (deep x, a) → kind a ≡ k.RightBrace
      → r.any_attribute limit part found i ≡ Some ((join_entries found (r.one_entry None x), depth x), next a)
  unfolding r.any_attribute r.spread_attribute
  spread-is found x i a h q e g = rw (alike k.LeftBrace (kind i) h, expects limit part k.Spread (next i) q, braced-is x (next (next i)) a e g) refl

  pub component-is : (xs : Entries) (i a : Input) → is_word (kind (next i)) ≡ true → r.attributes_from limit part (left (next (next i))) NoEntries 0 (next (next i)) ≡ Some ((xs, entries_depth xs), a) → kind a ≡ k.TagEnd
      → depth (Component (text (next i)) xs (span (start i) (next a))) ≤ limit → r.component limit part i ≡ Some (deep (Component (text (next i)) xs (span (start i) (next a))), next a)
  unfolding r.component r.component_of
  component-is xs i a w e g le =
      rw (w, e, expects limit part k.TagEnd a g) (deep-node limit (entries_depth xs) (Component (text (next i)) xs (span (start i) (next a))) (next a) (omega arith) refl)
