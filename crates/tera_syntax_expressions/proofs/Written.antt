-- Values that are written out: what is read is derived, and what is derived is read.
use Rattle.std.proofs.Common.{◌≡◌, ℕ, zero, suc, ◌<◌, ◌≤◌, ℤ, neg_ℤ, true, false, Option, Some, None, refl, sym, ◌∙◌, ap, subst, arith}
use Rattle.std.specs.Prelude.{option_map}
use Rattle.tera_errors.specs.Site.{Text}
use Rattle.tera_syntax_tree.specs.Tree.{Key, Literal, NothingLiteral, BooleanLiteral, IntegerLiteral, TextLiteral, ArrayLiteral, MapLiteral, Literals, NoLiterals, LiteralEntries, NoLiteralEntries}
use Rattle.tera_syntax_tree.specs.Depth.{literal_depth, literals_depth, literal_entries_depth}
use Rattle.tera_syntax_tokens.specs.declared.token.Kind.{Kind}
use Rattle.tera_syntax_tokens.specs.declared.token.Kind.TheVariants as k
use Rattle.tera_syntax_tokens.specs.Input.{Input, Parser, and_then, same, kind, text, next, left, expect}
use Rattle.tera_syntax_tokens.specs.Literal.{integer, literal}
use Rattle.tera_syntax_expressions.specs.Keys.{key_at}
use Rattle.tera_syntax_expressions.specs.Literals.{DerivesLiteral, plain, minus, array, map, DerivesLiterals, none, one, more, DerivesLiteralEntries, no_entries, one_entry, more_entries, DerivesLiteralEntry, entry, plain_by, plain_at, join_literals, one_literal, join_literal_entries, one_literal_entry, closed, behind_part, parts_from, literal_at, negative, keyed_by, written_key, written_item, written_entry, written_items, written_entries, written_by, written}
use Rattle.tera_syntax_expressions.proofs.Steps.{and_then-some, guard, chosen, same-is, some-pair, same-value, either, alike, differ, unlike, expect-some}
use Rattle.tera_syntax_expressions.proofs.Extent.{token, key-left, key-kind}
use Rattle.tera_syntax_expressions.proofs.PartRows.{parts_behind, parts_end, parts_next, parts_comma, parts_shut, join-no-literals, join-literals, join-no-literal-entries, join-literal-entries}

-- What is read is derived, a form at a time. The first part reads values no deeper than b.
abbrev Reads : ℕ → Parser Literal → Type 0
Reads b part = (i j : Input) (x : Literal) → part i ≡ Some (x, j) → DerivesLiteral x i j × (literal_depth x ≤ b)

abbrev Reading : ℕ → Input → Literal → Input → Type 0
Reading b i x j = DerivesLiteral x i j × (literal_depth x ≤ b)

mapped-leaf : {A : Type 0} (f : A → Literal) (o : Option A) (x : Literal) → ((a : A) → literal_depth (f a) ≤ 1) → option_map f o ≡ Some x → literal_depth x ≤ 1
mapped-leaf f None x leaf h = absurd (cc)
mapped-leaf f (Some a) x leaf h = let e : f a ≡ x = cc in subst (λ x. literal_depth x ≤ 1) e (leaf a)

given-leaf : (y x : Literal) → literal_depth y ≤ 1 → Some y ≡ Some x → literal_depth x ≤ 1
given-leaf y x leaf h = let e : y ≡ x = cc in subst (λ x. literal_depth x ≤ 1) e leaf

plain-leaf : (s : Kind) (word : Text) (x : Literal) → plain_by s word ≡ Some x → literal_depth x ≤ 1
plain-leaf k.Nothing word x h = given-leaf NothingLiteral x (omega arith) h
plain-leaf k.True word x h = given-leaf (BooleanLiteral true) x (omega arith) h
plain-leaf k.False word x h = given-leaf (BooleanLiteral false) x (omega arith) h
plain-leaf k.Int word x h = mapped-leaf IntegerLiteral (integer word) x (λ z. omega arith) h
plain-leaf k.Text word x h = mapped-leaf TextLiteral (literal word) x (λ t. omega arith) h
plain-leaf _ word x h = absurd (cc)

plain-got : (b : ℕ) (i j : Input) (x : Literal) → literal_at (plain_at i) i ≡ Some (x, j) → Reading (suc b) i x j
unfolding plain_at
plain-got b i j x h = go (plain_at i) refl h
  where
    go : (o : Option Literal) → plain_at i ≡ o → literal_at o i ≡ Some (x, j) → Reading (suc b) i x j
    go None e h = absurd (cc)
    go (Some y) e h =
        let le = plain-leaf (kind i) (text i) y e in
        same-value (λ x j. Reading (suc b) i x j) y x (next i) j h (plain e, omega (arith, le))

minus-got : (b : ℕ) (i j : Input) (x : Literal) → kind i ≡ k.Minus → negative (next i) ≡ Some (x, j) → Reading (suc b) i x j
unfolding negative
minus-got b i j x m h =
    let g = guard (same k.Int (kind (next i))) (literal_at (option_map (λ z. IntegerLiteral (neg_ℤ z)) (integer (text (next i)))) (next i)) (x, j) h in
    go (integer (text (next i))) refl (same-is k.Int (kind (next i)) g.0) g.1
  where
    go : (o : Option ℤ) → integer (text (next i)) ≡ o → kind (next i) ≡ k.Int → literal_at (option_map (λ z. IntegerLiteral (neg_ℤ z)) o) (next i) ≡ Some (x, j) → Reading (suc b) i x j
    go None e t h = absurd (cc)
    go (Some z) e t h =
        same-value (λ x j. Reading (suc b) i x j) (IntegerLiteral (neg_ℤ z)) x (next (next i)) j h (minus m t e, omega arith)

key-got : (i j : Input) (key : Key) → written_key i ≡ Some (key, j) → (key_at i ≡ Some key) × (kind (next i) ≡ k.Colon) × (j ≡ next (next i))
unfolding written_key
key-got i j key h = go (key_at i) refl h
  where
    go : (o : Option Key) → key_at i ≡ o → keyed_by o i ≡ Some (key, j) → (key_at i ≡ Some key) × (kind (next i) ≡ k.Colon) × (j ≡ next (next i))
    go None e h = absurd (cc)
    go (Some m) e h =
        let q = and_then-some (expect k.Colon (next i)) (λ _. λ j. Some (m, j)) (key, j) h in
        let u = expect-some k.Colon (next i) q.1 q.0 q.2 in
        let s = some-pair (m, q.1) (key, j) q.3 in
        (e ∙ ap Some s.0, u.0, sym s.1 ∙ u.1)

-- behind the last part
shut-got : {A : Type 0} (s : Kind) (step : A → Parser A) (found z : A) (i j : Input) → closed s step found i ≡ Some (z, j) → (kind i ≡ s) × (found ≡ z) × (next i ≡ j)
shut-got s step found z i j h =
    let q = and_then-some (expect s i) (λ _. λ a. Some (found, a)) (z, j) h in
    let u = expect-some s i q.1 q.0 q.2 in
    let e = some-pair (found, q.1) (z, j) q.3 in
    (u.0, e.0, sym u.1 ∙ e.1)

-- parts behind those that were found, up to what closes
record GotParts {A : Type 0} (Parts : A → Input → Input → Type 0) (join : A → A → A) (deepest : A → ℕ) (closing : Kind) (b : ℕ) (found : A) (i : Input) (z : A) (j : Input) : Type 0 where
  parts : A
  position : Input
  derived : Parts parts i position
  shut : kind position ≡ closing
  behind : next position ≡ j
  joined : z ≡ join found parts
  fits : deepest parts ≤ b

-- one of them, alone and before others
record GotPart {A : Type 0} (Parts : A → Input → Input → Type 0) (join : A → A → A) (deepest : A → ℕ) (b : ℕ) (found : A) (i : Input) (z : A) (j : Input) : Type 0 where
  part : A
  alone : Parts part i j
  before : (rest : A) (a : Input) → kind j ≡ k.Comma → Parts rest (next j) a → Parts (join part rest) i a
  joined : z ≡ join found part
  fits : deepest part ≤ b
  fits_before : (rest : A) → deepest rest ≤ b → deepest (join part rest) ≤ b

module _ {A : Type 0} (closing : Kind) (step : A → Parser A) (Parts : A → Input → Input → Type 0) (join : A → A → A) (deepest : A → ℕ) (b : ℕ) (no_parts : A) (fits_none : deepest no_parts ≤ b)
    (none_derived : (i : Input) → Parts no_parts i i) (join_none : (xs : A) → join xs no_parts ≡ xs) (join_join : (xs ys zs : A) → join (join xs ys) zs ≡ join xs (join ys zs))
    (part_got : (found z : A) (i j : Input) → step found i ≡ Some (z, j) → GotPart Parts join deepest b found i z j) where
  parts-got : (n : ℕ) (found z : A) (i j : Input) → parts_from closing step n found i ≡ Some (z, j) → GotParts Parts join deepest closing b found i z j
  unfolding parts_from
  parts-got zero found z i j h = absurd (cc)
  parts-got (suc n) found z i j h =
      let further = parts_from closing step n in
      either (chosen (same closing (kind i)) (Some (found, next i)) (and_then (step found i) (behind_part closing step further)) (Some (z, j)) h)
      (λ q. let s = some-pair (found, next i) (z, j) q.1 in
      record { parts = no_parts; position = i; derived = none_derived i; shut = same-is closing (kind i) q.0; behind = s.1; joined = sym s.0 ∙ sym (join_none found); fits = fits_none })
      (λ q. let t = and_then-some (step found i) (behind_part closing step further) (z, j) q.1 in
      let w = part_got found t.0 i t.1 t.2 in
      either (chosen (same k.Comma (kind t.1)) (further t.0 (next t.1)) (closed closing step t.0 t.1) (Some (z, j)) t.3)
      (λ c. let v = parts-got n t.0 z (next t.1) j c.1 in
      record {
        parts = join w.part v.parts;
        position = v.position;
        derived = w.before v.parts v.position (same-is k.Comma (kind t.1) c.0) v.derived;
        shut = v.shut;
        behind = v.behind;
        joined = v.joined ∙ ap (λ f. join f v.parts) w.joined ∙ join_join found w.part v.parts;
        fits = w.fits_before v.parts v.fits;
      })
      (λ c. let u = shut-got closing step t.0 z t.1 j c.1 in
      record { parts = w.part; position = t.1; derived = w.alone; shut = u.0; behind = u.2; joined = sym u.1 ∙ w.joined; fits = w.fits }))

module _ (b : ℕ) (part : Parser Literal) (reads : Reads b part) where
  item-got : (found z : Literals) (i j : Input) → written_item part found i ≡ Some (z, j) → GotPart DerivesLiterals join_literals literals_depth b found i z j
  unfolding written_item
  item-got found z i j h =
      let p = and_then-some (part i) (λ x. λ j. Some (join_literals found (one_literal x), j)) (z, j) h in
      let s = some-pair (join_literals found (one_literal p.0), p.1) (z, j) p.3 in
      let w = reads i p.1 p.0 p.2 in
      let d = subst (λ a. DerivesLiteral p.0 i a) s.1 w.0 in
      let f = w.1 in
      record { part = one_literal p.0; alone = one d; before = λ _ _ c q. more d c q; joined = sym s.0; fits = omega (arith, f); fits_before = λ _ g. omega (arith, f, g) }

  entry-got : (found z : LiteralEntries) (i j : Input) → written_entry part found i ≡ Some (z, j) → GotPart DerivesLiteralEntries join_literal_entries literal_entries_depth b found i z j
  unfolding written_entry
  entry-got found z i j h =
      let last : Key → Literal → Parser LiteralEntries = λ key x. λ a. Some (join_literal_entries found (one_literal_entry key x), a) in
      let q = and_then-some (written_key i) (λ key. λ j. and_then (part j) (last key)) (z, j) h in
      let u = key-got i q.1 q.0 q.2 in
      let p = and_then-some (part q.1) (last q.0) (z, j) q.3 in
      let s = some-pair (join_literal_entries found (one_literal_entry q.0 p.0), p.1) (z, j) p.3 in
      let w = reads q.1 p.1 p.0 p.2 in
      let d = entry u.0 u.1 (subst (λ a. DerivesLiteral p.0 (next (next i)) a) s.1 (subst (λ a. DerivesLiteral p.0 a p.1) u.2 w.0)) in
      let f = w.1 in
      record { part = one_literal_entry q.0 p.0; alone = one_entry d; before = λ _ _ c m. more_entries d c m; joined = sym s.0; fits = omega (arith, f); fits_before = λ _ g. omega (arith, f, g) }

  array-got : (i j : Input) (x : Literal) → kind i ≡ k.LeftBracket → and_then (written_items part (next i)) (λ xs. λ j. Some (ArrayLiteral xs, j)) ≡ Some (x, j) → Reading (suc b) i x j
  unfolding written_items
  array-got i j x e h =
      let q = and_then-some (written_items part (next i)) (λ xs. λ j. Some (ArrayLiteral xs, j)) (x, j) h in
      let s = some-pair (ArrayLiteral q.0, q.1) (x, j) q.3 in
      let w = parts-got k.RightBracket (written_item part) DerivesLiterals join_literals literals_depth b NoLiterals (omega arith) (λ _. none) join-no-literals join-literals item-got (left (next i)) NoLiterals q.0 (next i) q.1 q.2 in
      let f = w.fits in
      let v : ArrayLiteral w.parts ≡ x = ap ArrayLiteral (sym w.joined) ∙ s.0 in
      subst (λ x. Reading (suc b) i x j) v (subst (λ j. Reading (suc b) i (ArrayLiteral w.parts) j) (w.behind ∙ s.1) (array e w.derived w.shut, omega (arith, f)))

  map-got : (i j : Input) (x : Literal) → kind i ≡ k.LeftBrace → and_then (written_entries part (next i)) (λ xs. λ j. Some (MapLiteral xs, j)) ≡ Some (x, j) → Reading (suc b) i x j
  unfolding written_entries
  map-got i j x e h =
      let q = and_then-some (written_entries part (next i)) (λ xs. λ j. Some (MapLiteral xs, j)) (x, j) h in
      let s = some-pair (MapLiteral q.0, q.1) (x, j) q.3 in
      let w = parts-got k.RightBrace (written_entry part) DerivesLiteralEntries join_literal_entries literal_entries_depth b NoLiteralEntries (omega arith) (λ _. no_entries) join-no-literal-entries join-literal-entries entry-got (left (next i)) NoLiteralEntries q.0 (next i) q.1 q.2 in
      let f = w.fits in
      let v : MapLiteral w.parts ≡ x = ap MapLiteral (sym w.joined) ∙ s.0 in
      subst (λ x. Reading (suc b) i x j) v (subst (λ j. Reading (suc b) i (MapLiteral w.parts) j) (w.behind ∙ s.1) (map e w.derived w.shut, omega (arith, f)))

  by-got : (i j : Input) (x : Literal) (s : Kind) → kind i ≡ s → written_by part s i ≡ Some (x, j) → Reading (suc b) i x j
  by-got i j x k.LeftBracket e h = array-got i j x e h
  by-got i j x k.LeftBrace e h = map-got i j x e h
  by-got i j x k.Minus e h = minus-got b i j x e h
  by-got i j x _ e h = plain-got b i j x h

-- What is read is derived, and no deeper than the limit.
pub what_is_written : (b : ℕ) (i j : Input) (x : Literal) → written b i ≡ Some (x, j) → DerivesLiteral x i j × (literal_depth x ≤ b)
unfolding written
what_is_written zero i j x h = absurd (cc)
what_is_written (suc b) i j x h = by-got b (written b) (what_is_written b) i j x (kind i) refl h

-- How many tokens a value takes, and with which it begins

plain-kind : (s : Kind) (i : Input) (x : Literal) → plain_at i ≡ Some x → plain_by s (text i) ≡ None → kind i ≡ s → ⊥
unfolding plain_at
plain-kind s i x h e q = let f : plain_by (kind i) (text i) ≡ None = ap (λ s. plain_by s (text i)) q ∙ e in cc

mutual
  shorter : {x : Literal} {i j : Input} → DerivesLiteral x i j → left j < left i
  shorter (plain {x = x} {i = i} h) = token (kind i) i refl (plain-kind k.End i x h refl)
  shorter (minus {i = i} h e f) = let t1 = token k.Minus i h (λ e. cc) in let t2 = token k.Int (next i) e (λ e. cc) in omega arith
  shorter (array {i = i} {a = a} h d g) = let p1 = shorter-items d in let t1 = token k.LeftBracket i h (λ e. cc) in let t2 = token k.RightBracket a g (λ e. cc) in omega arith
  shorter (map {i = i} {a = a} h d g) = let p1 = shorter-entries d in let t1 = token k.LeftBrace i h (λ e. cc) in let t2 = token k.RightBrace a g (λ e. cc) in omega arith

  shorter-items : {xs : Literals} {i j : Input} → DerivesLiterals xs i j → left j ≤ left i
  shorter-items none = omega arith
  shorter-items (one d) = let p1 = shorter d in omega arith
  shorter-items (more {a = a} d h q) = let p1 = shorter d in let p2 = shorter-items q in let t1 = token k.Comma a h (λ e. cc) in omega arith

  shorter-entry : {key : Key} {x : Literal} {i j : Input} → DerivesLiteralEntry key x i j → left j < left i
  shorter-entry (entry {key = key} {i = i} h q d) = let p1 = shorter d in let t1 = key-left i key h in let t2 = token k.Colon (next i) q (λ e. cc) in omega arith

  shorter-entries : {xs : LiteralEntries} {i j : Input} → DerivesLiteralEntries xs i j → left j ≤ left i
  shorter-entries no_entries = omega arith
  shorter-entries (one_entry d) = let p1 = shorter-entry d in omega arith
  shorter-entries (more_entries {a = a} d h q) = let p1 = shorter-entry d in let p2 = shorter-entries q in let t1 = token k.Comma a h (λ e. cc) in omega arith

pub literal-left : {x : Literal} {i j : Input} → DerivesLiteral x i j → left j < left i
literal-left d = shorter d

item-starts : {x : Literal} {i j : Input} → DerivesLiteral x i j → kind i ≡ k.RightBracket → ⊥
item-starts (plain {x = x} {i = i} h) = plain-kind k.RightBracket i x h refl
item-starts (minus h e f) = λ q. let r : k.Minus ≡ k.RightBracket = sym h ∙ q in cc
item-starts (array h d g) = λ q. let r : k.LeftBracket ≡ k.RightBracket = sym h ∙ q in cc
item-starts (map h d g) = λ q. let r : k.LeftBrace ≡ k.RightBracket = sym h ∙ q in cc

entry-starts : {key : Key} {x : Literal} {i j : Input} → DerivesLiteralEntry key x i j → kind i ≡ k.RightBrace → ⊥
entry-starts (entry {key = key} {i = i} h q d) = key-kind k.RightBrace i key h refl

-- What is derived is read

some-literal : {x : Literal} {i j : Input} → DerivesLiteral x i j → 0 < literal_depth x
some-literal (plain {x = x} h) = some x
  where
    some : (x : Literal) → 0 < literal_depth x
    some NothingLiteral = omega arith
    some (BooleanLiteral b) = omega arith
    some (IntegerLiteral z) = omega arith
    some (TextLiteral t) = omega arith
    some (ArrayLiteral xs) = omega arith
    some (MapLiteral xs) = omega arith
some-literal (minus h e f) = omega arith
some-literal (array h d g) = omega arith
some-literal (map h d g) = omega arith

by-plain : (part : Parser Literal) (i : Input) (s : Kind) (word : Text) (x : Literal) → plain_by s word ≡ Some x → written_by part s i ≡ literal_at (plain_at i) i
by-plain part i k.LeftBracket word x h = absurd (cc)
by-plain part i k.LeftBrace word x h = absurd (cc)
by-plain part i k.Minus word x h = absurd (cc)
by-plain part i _ word x h = refl

module _ (b : ℕ) where
  abbrev items-behind : ℕ → Literals → Parser Literals
  items-behind n = parts_behind k.RightBracket (written_item (written b)) n

  abbrev entries-behind : ℕ → LiteralEntries → Parser LiteralEntries
  entries-behind n = parts_behind k.RightBrace (written_entry (written b)) n

  by-kind : (i : Input) (s : Kind) → kind i ≡ s → written (suc b) i ≡ written_by (written b) s i
  unfolding written
  by-kind i s e = ap (λ s. written_by (written b) s i) e

  plain-read : (i : Input) (x : Literal) → plain_at i ≡ Some x → written (suc b) i ≡ Some (x, next i)
  unfolding plain_at
  plain-read i x h = by-kind i (kind i) refl ∙ by-plain (written b) i (kind i) (text i) x h ∙ ap (λ o. literal_at o i) h

  minus-read : (i : Input) (z : ℤ) → kind i ≡ k.Minus → kind (next i) ≡ k.Int → integer (text (next i)) ≡ Some z → written (suc b) i ≡ Some (IntegerLiteral (neg_ℤ z), next (next i))
  unfolding negative
  minus-read i z h e f = by-kind i k.Minus h ∙ rw (alike k.Int (kind (next i)) e, f) refl

  closed-read : {A : Type 0} (s : Kind) (step : A → Parser A) (found : A) (j : Input) → kind j ≡ s → closed s step found j ≡ Some (found, next j)
  unfolding expect
  closed-read s step found j h = rw (alike s (kind j) h) refl

  item-read : (found : Literals) (x : Literal) (i j : Input) → written b i ≡ Some (x, j) → written_item (written b) found i ≡ Some (join_literals found (one_literal x), j)
  unfolding written_item
  item-read found x i j h = rw h refl

  entry-read : (found : LiteralEntries) (key : Key) (x : Literal) (i j : Input) → key_at i ≡ Some key → kind (next i) ≡ k.Colon → written b (next (next i)) ≡ Some (x, j)
      → written_entry (written b) found i ≡ Some (join_literal_entries found (one_literal_entry key x), j)
  unfolding written_entry written_key expect
  entry-read found key x i j e h r = rw (e, alike k.Colon (kind (next i)) h, r) refl

  -- a part and what is behind it
  item-first : (n : ℕ) (found : Literals) (x : Literal) (i j : Input) → (kind i ≡ k.RightBracket → ⊥) → written b i ≡ Some (x, j)
      → parts_from k.RightBracket (written_item (written b)) (suc n) found i ≡ items-behind n (join_literals found (one_literal x)) j
  item-first n found x i j s h =
      parts_next k.RightBracket (written_item (written b)) n found i (unlike k.RightBracket (kind i) s) ∙ ap (λ o. and_then o (items-behind n)) (item-read found x i j h)

  entry-first : (n : ℕ) (found : LiteralEntries) (key : Key) (x : Literal) (i j : Input) → (kind i ≡ k.RightBrace → ⊥) → key_at i ≡ Some key → kind (next i) ≡ k.Colon → written b (next (next i)) ≡ Some (x, j)
      → parts_from k.RightBrace (written_entry (written b)) (suc n) found i ≡ entries-behind n (join_literal_entries found (one_literal_entry key x)) j
  entry-first n found key x i j s e h r =
      parts_next k.RightBrace (written_entry (written b)) n found i (unlike k.RightBrace (kind i) s) ∙ ap (λ o. and_then o (entries-behind n)) (entry-read found key x i j e h r)

  array-read : (xs : Literals) (i a : Input) → kind i ≡ k.LeftBracket → parts_from k.RightBracket (written_item (written b)) (left (next i)) NoLiterals (next i) ≡ Some (xs, next a)
      → written (suc b) i ≡ Some (ArrayLiteral xs, next a)
  unfolding written_items
  array-read xs i a e h = by-kind i k.LeftBracket e ∙ ap (λ o. and_then o (λ xs. λ j. Some (ArrayLiteral xs, j))) h

  map-read : (xs : LiteralEntries) (i a : Input) → kind i ≡ k.LeftBrace → parts_from k.RightBrace (written_entry (written b)) (left (next i)) NoLiteralEntries (next i) ≡ Some (xs, next a)
      → written (suc b) i ≡ Some (MapLiteral xs, next a)
  unfolding written_entries
  map-read xs i a e h = by-kind i k.LeftBrace e ∙ ap (λ o. and_then o (λ xs. λ j. Some (MapLiteral xs, j))) h

mutual
  goes : {x : Literal} {i j : Input} → DerivesLiteral x i j → (b : ℕ) → literal_depth x ≤ b → written b i ≡ Some (x, j)
  goes (plain {x = x} {i = i} h) (suc b) le = plain-read b i x h
  goes (minus {z = z} {i = i} h e f) (suc b) le = minus-read b i z h e f
  goes (array {xs = xs} {i = i} {a = a} h d g) (suc b) le = array-read b xs i a h (goes-items d g b (left (next i)) NoLiterals (omega arith) (omega arith))
  goes (map {xs = xs} {i = i} {a = a} h d g) (suc b) le = map-read b xs i a h (goes-entries d g b (left (next i)) NoLiteralEntries (omega arith) (omega arith))
  goes d zero le = let s = some-literal d in absurd (omega arith)

  goes-items : {xs : Literals} {i a : Input} → DerivesLiterals xs i a → kind a ≡ k.RightBracket → (b n : ℕ) (found : Literals) → literals_depth xs ≤ b → left i ≤ n
      → parts_from k.RightBracket (written_item (written b)) n found i ≡ Some (join_literals found xs, next a)
  goes-items (none {i = i}) e b zero found le fu = let t1 = token k.RightBracket i e (λ e. cc) in absurd (omega arith)
  goes-items (none {i = i}) e b (suc n) found le fu = parts_end k.RightBracket (written_item (written b)) n found i (alike k.RightBracket (kind i) e) ∙ ap (λ f. Some (f, next i)) (sym (join-no-literals found))
  goes-items (one d) e b zero found le fu = let p1 = shorter d in absurd (omega arith)
  goes-items (one {x = x} {i = i} {j = j} d) e b (suc n) found le fu =
      item-first b n found x i j (item-starts d) (goes d b (omega arith))
      ∙ parts_shut k.RightBracket (written_item (written b)) n (join_literals found (one_literal x)) j (differ k.Comma k.RightBracket (kind j) e (λ q. cc))
      ∙ closed-read b k.RightBracket (written_item (written b)) (join_literals found (one_literal x)) j e
  goes-items (more d h q) e b zero found le fu = let p1 = shorter d in absurd (omega arith)
  goes-items (more {x = x} {xs = xs} {i = i} {a = a} {j = j} d h q) e b (suc n) found le fu =
      let p1 = shorter d in let t1 = token k.Comma a h (λ e. cc) in
      item-first b n found x i a (item-starts d) (goes d b (omega arith))
      ∙ parts_comma k.RightBracket (written_item (written b)) n (join_literals found (one_literal x)) a (alike k.Comma (kind a) h)
      ∙ goes-items q e b n (join_literals found (one_literal x)) (omega arith) (omega arith)
      ∙ ap (λ f. Some (f, next j)) (join-literals found (one_literal x) xs)

  goes-entries : {xs : LiteralEntries} {i a : Input} → DerivesLiteralEntries xs i a → kind a ≡ k.RightBrace → (b n : ℕ) (found : LiteralEntries) → literal_entries_depth xs ≤ b → left i ≤ n
      → parts_from k.RightBrace (written_entry (written b)) n found i ≡ Some (join_literal_entries found xs, next a)
  goes-entries (no_entries {i = i}) e b zero found le fu = let t1 = token k.RightBrace i e (λ e. cc) in absurd (omega arith)
  goes-entries (no_entries {i = i}) e b (suc n) found le fu = parts_end k.RightBrace (written_entry (written b)) n found i (alike k.RightBrace (kind i) e) ∙ ap (λ f. Some (f, next i)) (sym (join-no-literal-entries found))
  goes-entries (one_entry d) e b zero found le fu = let p1 = shorter-entry d in absurd (omega arith)
  goes-entries (one_entry {key = key} {x = x} {i = i} {j = j} (entry w c d)) e b (suc n) found le fu =
      entry-first b n found key x i j (key-kind k.RightBrace i key w refl) w c (goes d b (omega arith))
      ∙ parts_shut k.RightBrace (written_entry (written b)) n (join_literal_entries found (one_literal_entry key x)) j (differ k.Comma k.RightBrace (kind j) e (λ q. cc))
      ∙ closed-read b k.RightBrace (written_entry (written b)) (join_literal_entries found (one_literal_entry key x)) j e
  goes-entries (more_entries d h q) e b zero found le fu = let p1 = shorter-entry d in absurd (omega arith)
  goes-entries (more_entries {key = key} {x = x} {xs = xs} {i = i} {a = a} {j = j} (entry w c d) h q) e b (suc n) found le fu =
      let p1 = shorter d in let t0 = key-left i key w in let t2 = token k.Colon (next i) c (λ e. cc) in let t1 = token k.Comma a h (λ e. cc) in
      entry-first b n found key x i a (key-kind k.RightBrace i key w refl) w c (goes d b (omega arith))
      ∙ parts_comma k.RightBrace (written_entry (written b)) n (join_literal_entries found (one_literal_entry key x)) a (alike k.Comma (kind a) h)
      ∙ goes-entries q e b n (join_literal_entries found (one_literal_entry key x)) (omega arith) (omega arith)
      ∙ ap (λ f. Some (f, next j)) (join-literal-entries found (one_literal_entry key x) xs)

-- What is derived is read, where it is no deeper than the limit.
pub written_is : {x : Literal} {i j : Input} → DerivesLiteral x i j → (b : ℕ) → literal_depth x ≤ b → written b i ≡ Some (x, j)
written_is d b le = goes d b le
