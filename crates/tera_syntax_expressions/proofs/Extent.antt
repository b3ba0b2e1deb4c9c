-- How many tokens a derivation takes, and with which it begins.
use Rattle.std.proofs.Common.{◌≡◌, ℕ, suc, ◌<◌, ◌≤◌, ◌⊎◌, inl, inr, List, [], ◌∷◌, Bool, true, Option, Some, None, refl, sym, ◌∙◌, ap, arith, length}
use Rattle.tera_syntax_tree.specs.Tree.{Expr, Optional, Items, Key, Entries, Arguments}
use Rattle.tera_syntax_tokens.specs.declared.token.Kind.{Kind}
use Rattle.tera_syntax_tokens.specs.declared.token.Kind.TheVariants as k
use Rattle.tera_syntax_tokens.specs.Token.{Token}
use Rattle.tera_syntax_tokens.specs.Input.{Input, same, kind, kind_of, text, next, after, left, is_word}
use Rattle.tera_syntax_expressions.specs.Keys.{key_at, key_by}
use Rattle.tera_syntax_expressions.specs.Grammar.{Derives, quoted, tighter, choice, operation, not, not_in, minus, power, attribute, index, slice, DerivesPart, absent, present, DerivesStep, no_step, step, int, is_true, is_false, nothing, name, of_loop, parentheses, array, map, DerivesEntry, keyed, spread_map, DerivesEntries, no_entries, one_entry, more_entries, DerivesItem, plain, spread, DerivesItems, none, one, more, comprehension, DerivesCondition, no_condition, condition, call, component, DerivesValue, text_value, braced_value, DerivesAttribute, named_attribute, spread_attribute, DerivesAttributes, no_attributes, more_attributes, filter, test, not_test, DerivesArgument, argument, DerivesArguments, no_arguments, one_argument, more_arguments, DerivesGiven, not_given, given}
use Rattle.tera_syntax_expressions.specs.Headings.{Calls, value, key_and_value}
use Rattle.tera_errors.specs.Site as site
use Rattle.tera_syntax_expressions.proofs.Steps.{unlike, alike, test-name}
use Rattle.tera_syntax_expressions.proofs.GoingOn.{is-no-end, dot-needs, bracket-needs}

pub next-left : (s : Kind) (i : Input) → kind i ≡ s → (s ≡ k.End → ⊥) → left i ≡ suc (left (next i))
unfolding left next kind
next-left s i h n = go i.ahead i.last i.in_loop h
  where
    go : (ts : List Token) (last : ℕ) (q : Bool) → kind_of ts ≡ s → length ts ≡ suc (length (after ts last q).ahead)
    go [] last q h = absurd (n (sym h))
    go (t ∷ ts) last q h = omega arith

-- no step brings tokens back
pub next-le : (i : Input) → left (next i) ≤ left i
unfolding left next
next-le i = go i.ahead i.last i.in_loop
  where
    go : (ts : List Token) (last : ℕ) (q : Bool) → length (after ts last q).ahead ≤ length ts
    go [] last q = omega arith
    go (t ∷ ts) last q = omega arith

pub token : (s : Kind) (i : Input) → kind i ≡ s → (s ≡ k.End → ⊥) → left (next i) < left i
token s i h n = let e = next-left s i h n in omega arith

-- a word is a token
pub word-some : (i : Input) → is_word (kind i) ≡ true → kind i ≡ k.End → ⊥
unfolding is_word
word-some i h e = let f : is_word k.End ≡ true = ap is_word (sym e) ∙ h in cc

pub word-left : (i : Input) → is_word (kind i) ≡ true → left (next i) < left i
word-left i h = token (kind i) i refl (word-some i h)

-- a key is a token of its kinds
pub key-kind : (s : Kind) (i : Input) (key : Key) → key_at i ≡ Some key → key_by s (text i) ≡ None → kind i ≡ s → ⊥
unfolding key_at
key-kind s i key h e q = let f : key_by (kind i) (text i) ≡ None = ap (λ s. key_by s (text i)) q ∙ e in cc

pub key-left : (i : Input) (key : Key) → key_at i ≡ Some key → left (next i) < left i
key-left i key h = token (kind i) i refl (key-kind k.End i key h refl)

pub shorter-calls : {key : Option site.Name} {called : site.Name} {i j : Input} → Calls key called i j → left j < left i
shorter-calls (value {i = i} h) = let t1 = token k.Name i h.0 (λ e. cc) in let t2 = token k.In (next i) h.1 (λ e. cc) in omega arith
shorter-calls (key_and_value {i = i} h g) =
    let t1 = token k.Name i h.0 (λ e. cc) in let t2 = token k.Comma (next i) h.1 (λ e. cc) in
    let t3 = token k.Name (next (next i)) g.0 (λ e. cc) in let t4 = token k.In (next (next (next i))) g.1 (λ e. cc) in omega arith

mutual
  pub shorter : {l : ℕ} {x : Expr} {i j : Input} → Derives l x i j → left j < left i
  shorter (tighter d) = shorter d
  shorter (choice {i = i} {a = a} {b = b} d h f g q) = let p1 = shorter d in let p2 = shorter f in let p3 = shorter q in let t1 = token k.If a h (λ e. cc) in let t2 = token k.Else b g (λ e. cc) in omega arith
  shorter (operation {s = s} {a = a} w d h f) = let p1 = shorter d in let p2 = shorter f in let t1 = token s a h (λ e. is-no-end w e) in omega arith
  shorter (not {i = i} h d) = let p1 = shorter d in let t1 = token k.Not i h (λ e. cc) in omega arith
  shorter (not_in {a = a} d h g f) = let p1 = shorter d in let p2 = shorter f in let t1 = token k.Not a h (λ e. cc) in let t2 = token k.In (next a) g (λ e. cc) in omega arith
  shorter (minus {i = i} h d) = let p1 = shorter d in let t1 = token k.Minus i h (λ e. cc) in omega arith
  shorter (power {a = a} d h f) = let p1 = shorter d in let p2 = shorter f in let t1 = token k.Power a h (λ e. cc) in omega arith
  shorter (attribute {s = s} {a = a} w d h g) = let p1 = shorter d in let t1 = token s a h (dot-needs w).2 in let t2 = word-left (next a) g in omega arith
  shorter (index {s = s} {a = a} {b = b} w d h f g) = let p1 = shorter d in let p2 = shorter f in let t1 = token s a h (bracket-needs w).2 in let t2 = token k.RightBracket b g (λ e. cc) in omega arith
  shorter (slice {s = s} {a = a} {b = b} {c = c} {d = e} w d h f g q t u) =
      let p1 = shorter d in let p2 = shorter-part f in let p3 = shorter-part q in let p4 = shorter-step t in
      let t1 = token s a h (bracket-needs w).2 in let t2 = token k.Colon b g (λ e. cc) in let t3 = token k.RightBracket e u (λ e. cc) in omega arith
  shorter (int {i = i} h e) = token k.Int i h (λ e. cc)
  shorter (quoted {i = i} h e) = token k.Text i h (λ e. cc)
  shorter (is_true {i = i} h) = token k.True i h (λ e. cc)
  shorter (is_false {i = i} h) = token k.False i h (λ e. cc)
  shorter (nothing {i = i} h) = token k.Nothing i h (λ e. cc)
  shorter (name {i = i} h e g) = token k.Name i h (λ e. cc)
  shorter (of_loop {i = i} h e) = let t1 = token k.Name i h (λ e. cc) in let t2 = next-le (next i) in let t3 = next-le (next (next i)) in omega arith
  shorter (parentheses {i = i} {a = a} h d g) = let p1 = shorter d in let t1 = token k.LeftParenthesis i h (λ e. cc) in let t2 = token k.RightParenthesis a g (λ e. cc) in omega arith
  shorter (array {i = i} {a = a} h d g) = let p1 = shorter-all d in let t1 = token k.LeftBracket i h (λ e. cc) in let t2 = token k.RightBracket a g (λ e. cc) in omega arith
  shorter (map {i = i} {a = a} h d g) = let p1 = shorter-entries d in let t1 = token k.LeftBrace i h (λ e. cc) in let t2 = token k.RightBrace a g (λ e. cc) in omega arith
  shorter (comprehension {i = i} {a = a} {d = e} h d f c t o g) =
      let p1 = shorter d in let p2 = shorter-calls c in let p3 = shorter t in let p4 = shorter-condition o in
      let t1 = token k.LeftBracket i h (λ e. cc) in let t2 = token k.For a f (λ e. cc) in let t3 = token k.RightBracket e g (λ e. cc) in omega arith
  shorter (call {i = i} {a = a} h e d g) = let p1 = shorter-arguments d in let t1 = token k.Name i h (λ e. cc) in let t2 = next-le (next i) in let t3 = token k.RightParenthesis a g (λ e. cc) in omega arith
  shorter (component {i = i} {a = a} h w d g) =
      let p1 = shorter-attributes d in let t1 = token k.Less i h (λ e. cc) in let t2 = word-left (next i) w in let t3 = token k.TagEnd a g (λ e. cc) in omega arith
  shorter (filter {a = a} d h g q) = let p1 = shorter d in let p2 = shorter-given q in let t1 = token k.Bar a h (λ e. cc) in let t2 = word-left (next a) g in omega arith
  shorter (test {a = a} d h g q) =
      let p1 = shorter d in let p2 = shorter-given q in let t1 = token k.Is a h (λ e. cc) in let t2 = word-left (next a) (test-name (kind (next a)) g).0 in omega arith
  shorter (not_test {a = a} d h f g q) =
      let p1 = shorter d in let p2 = shorter-given q in let t1 = token k.Is a h (λ e. cc) in let t2 = token k.Not (next a) f (λ e. cc) in
      let t3 = word-left (next (next a)) (test-name (kind (next (next a))) g).0 in omega arith

  pub shorter-value : {x : Expr} {i j : Input} → DerivesValue x i j → left j < left i
  shorter-value (text_value {i = i} h e) = token k.Text i h (λ e. cc)
  shorter-value (braced_value {i = i} {a = a} h d g) = let p1 = shorter d in let t1 = token k.LeftBrace i h (λ e. cc) in let t2 = token k.RightBrace a g (λ e. cc) in omega arith

  pub shorter-attribute : {key : Option Key} {x : Expr} {i j : Input} → DerivesAttribute key x i j → left j < left i
  shorter-attribute (named_attribute {i = i} h q v) = let p1 = shorter-value v in let t1 = word-left i h in let t2 = token k.Assign (next i) q (λ e. cc) in omega arith
  shorter-attribute (spread_attribute {i = i} {a = a} h q d g) =
      let p1 = shorter d in let t1 = token k.LeftBrace i h (λ e. cc) in let t2 = token k.Spread (next i) q (λ e. cc) in let t3 = token k.RightBrace a g (λ e. cc) in omega arith

  pub shorter-attributes : {xs : Entries} {i j : Input} → DerivesAttributes xs i j → left j ≤ left i
  shorter-attributes no_attributes = omega arith
  shorter-attributes (more_attributes d q) = let p1 = shorter-attribute d in let p2 = shorter-attributes q in omega arith

  pub shorter-given : {all : Arguments} {i j : Input} → DerivesGiven all i j → left j ≤ left i
  shorter-given (not_given h) = omega arith
  shorter-given (given {i = i} {a = a} h d g) = let p1 = shorter-arguments d in let t1 = token k.LeftParenthesis i h (λ e. cc) in let t2 = token k.RightParenthesis a g (λ e. cc) in omega arith

  pub shorter-argument : {found all : Arguments} {i j : Input} → DerivesArgument found all i j → left j < left i
  shorter-argument (argument {i = i} h q d e) = let p1 = shorter d in let t1 = word-left i h in let t2 = token k.Assign (next i) q (λ e. cc) in omega arith

  pub shorter-arguments : {found all : Arguments} {i j : Input} → DerivesArguments found all i j → left j ≤ left i
  shorter-arguments no_arguments = omega arith
  shorter-arguments (one_argument d) = let p1 = shorter-argument d in omega arith
  shorter-arguments (more_arguments {a = a} d h q) = let p1 = shorter-argument d in let p2 = shorter-arguments q in let t1 = token k.Comma a h (λ e. cc) in omega arith

  pub shorter-condition : {o : Optional} {i j : Input} → DerivesCondition o i j → left j ≤ left i
  shorter-condition no_condition = omega arith
  shorter-condition (condition {i = i} h d) = let p1 = shorter d in let t1 = token k.If i h (λ e. cc) in omega arith

  pub shorter-entry : {key : Option Key} {x : Expr} {i j : Input} → DerivesEntry key x i j → left j < left i
  shorter-entry (keyed {key = key} {i = i} h q d) = let p1 = shorter d in let t1 = key-left i key h in let t2 = token k.Colon (next i) q (λ e. cc) in omega arith
  shorter-entry (spread_map {i = i} h d) = let p1 = shorter d in let t1 = token k.Spread i h (λ e. cc) in omega arith

  pub shorter-entries : {xs : Entries} {i j : Input} → DerivesEntries xs i j → left j ≤ left i
  shorter-entries no_entries = omega arith
  shorter-entries (one_entry d) = let p1 = shorter-entry d in omega arith
  shorter-entries (more_entries {a = a} d h q) = let p1 = shorter-entry d in let p2 = shorter-entries q in let t1 = token k.Comma a h (λ e. cc) in omega arith

  pub shorter-part : {o : Optional} {i j : Input} → DerivesPart o i j → left j ≤ left i
  shorter-part absent = omega arith
  shorter-part (present d) = let p1 = shorter d in omega arith

  pub shorter-step : {o : Optional} {i j : Input} → DerivesStep o i j → left j ≤ left i
  shorter-step no_step = omega arith
  shorter-step (step {i = i} h f) = let p1 = shorter-part f in let t1 = token k.Colon i h (λ e. cc) in omega arith

  pub shorter-item : {s : Bool} {x : Expr} {i j : Input} → DerivesItem s x i j → left j < left i
  shorter-item (plain d) = shorter d
  shorter-item (spread {i = i} h d) = let p1 = shorter d in let t1 = token k.Spread i h (λ e. cc) in omega arith

  pub shorter-all : {xs : Items} {i j : Input} → DerivesItems xs i j → left j ≤ left i
  shorter-all none = omega arith
  shorter-all (one d) = let p1 = shorter-item d in omega arith
  shorter-all (more {a = a} d h q) = let p1 = shorter-item d in let p2 = shorter-all q in let t1 = token k.Comma a h (λ e. cc) in omega arith

-- no expression begins with a token of these kinds
abbrev pub Begins : Kind → Type 0
Begins s = (s ≡ k.RightBracket → ⊥) × (s ≡ k.Spread → ⊥) × (s ≡ k.Colon → ⊥)

pub starts-so : {l : ℕ} {x : Expr} {i j : Input} → Derives l x i j → Begins (kind i)
starts-so (tighter d) = starts-so d
starts-so (choice d h f g q) = starts-so d
starts-so (operation w d h f) = starts-so d
starts-so (not h d) = (λ e. cc, λ e. cc, λ e. cc)
starts-so (not_in d h g f) = starts-so d
starts-so (minus h d) = (λ e. cc, λ e. cc, λ e. cc)
starts-so (power d h f) = starts-so d
starts-so (attribute w d h g) = starts-so d
starts-so (index w d h f g) = starts-so d
starts-so (map h d g) = (λ e. cc, λ e. cc, λ e. cc)
starts-so (slice w d h f g q t u) = starts-so d
starts-so (int h e) = (λ e. cc, λ e. cc, λ e. cc)
starts-so (quoted h e) = (λ e. cc, λ e. cc, λ e. cc)
starts-so (is_true h) = (λ e. cc, λ e. cc, λ e. cc)
starts-so (is_false h) = (λ e. cc, λ e. cc, λ e. cc)
starts-so (nothing h) = (λ e. cc, λ e. cc, λ e. cc)
starts-so (name h e g) = (λ e. cc, λ e. cc, λ e. cc)
starts-so (call h e d g) = (λ e. cc, λ e. cc, λ e. cc)
starts-so (component h w d g) = (λ e. cc, λ e. cc, λ e. cc)
starts-so (filter d h g q) = starts-so d
starts-so (test d h g q) = starts-so d
starts-so (not_test d h f g q) = starts-so d
starts-so (of_loop h e) = (λ e. cc, λ e. cc, λ e. cc)
starts-so (parentheses h d g) = (λ e. cc, λ e. cc, λ e. cc)
starts-so (array h d g) = (λ e. cc, λ e. cc, λ e. cc)
starts-so (comprehension h d f c t o g) = (λ e. cc, λ e. cc, λ e. cc)

pub item-starts : {s : Bool} {x : Expr} {i j : Input} → DerivesItem s x i j → (kind i ≡ k.RightBracket → ⊥) × (same k.Spread (kind i) ≡ s)
item-starts (plain {i = i} d) = let b = starts-so d in (b.0, unlike k.Spread (kind i) b.1)
item-starts (spread {i = i} h d) = (λ e. cc, alike k.Spread (kind i) h)

pub entry-starts : {key : Option Key} {x : Expr} {i j : Input} → DerivesEntry key x i j → kind i ≡ k.RightBrace → ⊥
entry-starts (keyed {key = key} {i = i} h q d) = key-kind k.RightBrace i key h refl
entry-starts (spread_map h d) = λ e. cc

pub argument-starts : {found all : Arguments} {i j : Input} → DerivesArgument found all i j → kind i ≡ k.RightParenthesis → ⊥
unfolding is_word
argument-starts (argument {i = i} h q d e) s = let f : is_word k.RightParenthesis ≡ true = ap is_word (sym s) ∙ h in cc

pub step-begins : {o : Optional} {i a : Input} → DerivesStep o i a → kind a ≡ k.RightBracket → (kind i ≡ k.Colon) ⊎ (kind i ≡ k.RightBracket)
step-begins no_step h = inr h
step-begins (step q f) h = inl q

pub condition-begins : {o : Optional} {i a : Input} → DerivesCondition o i a → kind a ≡ k.RightBracket → (kind i ≡ k.If) ⊎ (kind i ≡ k.RightBracket)
condition-begins no_condition h = inr h
condition-begins (condition q d) h = inl q
