-- Rows that were read, behind those that were found: items and entries.
use Rattle.std.proofs.Common.{◌≡◌, ℕ, max, Bool, true, false, Option, Some, None, if◌then◌else◌, refl, sym, ◌∙◌, ap, subst, arith}
use Rattle.tera_syntax_tree.specs.Tree.{Expr, Items, Key, Entries}
use Rattle.tera_syntax_tree.specs.Depth.{depth, items_depth, entries_depth}
use Rattle.tera_syntax_tokens.specs.declared.token.Kind.TheVariants as k
use Rattle.tera_syntax_tokens.specs.Input.{Input, same, kind, next, expect}
use Rattle.tera_syntax_expressions.specs.Keys.{key_at}
use Rattle.tera_syntax_expressions.specs.Grammar.{Derives, DerivesEntry, keyed, spread_map, DerivesEntries, no_entries, one_entry, more_entries, DerivesItem, plain, spread, DerivesItems, none, one, more}
use Rattle.tera_syntax_expressions.specs.Expressions as r
use Rattle.tera_syntax_expressions.specs.Expressions.{join_items, one_item, join_entries}
use Rattle.tera_syntax_expressions.proofs.Rows.{join-none, join-join, join-no-entries, join-entries}
use Rattle.tera_syntax_expressions.proofs.Steps.{and_then-some, chosen, same-is, expect-some, either, at, same-value}

-- the items of an array
pub data GotItems : Items → ℕ → Input → Items × ℕ → Input → Type 0 where
  got_items : {found xs : Items} {d : ℕ} {i a : Input} {z : Items × ℕ} → DerivesItems xs i a → kind a ≡ k.RightBracket → z.0 ≡ join_items found xs → z.1 ≡ max d (items_depth xs) → GotItems found d i z (next a)

pub no-items : (found : Items) (d : ℕ) (i : Input) → kind i ≡ k.RightBracket → GotItems found d i (found, d) (next i)
no-items found d i h = got_items none h (sym (join-none found)) (omega arith)

pub one-item : (found f : Items) (s : Bool) (x : Expr) (d m : ℕ) (i a : Input) → f ≡ join_items found (one_item s x) → m ≡ max d (depth x) → DerivesItem s x i a → kind a ≡ k.RightBracket → GotItems found d i (f, m) (next a)
one-item found f s x d m i a ef em p h = got_items (one p) h ef (omega arith)

pub more-items : (found f : Items) (s : Bool) (x : Expr) (d m : ℕ) (i a j : Input) (z : Items × ℕ) → f ≡ join_items found (one_item s x) → m ≡ max d (depth x) → DerivesItem s x i a → kind a ≡ k.Comma → GotItems f m (next a) z j
    → GotItems found d i z j
more-items found f s x d m i a j z ef em p h (got_items {xs = xs} q g e dz) = got_items (more p h q) g (e ∙ ap (λ f. join_items f xs) ef ∙ join-join found (one_item s x) xs) (omega arith)

-- the entries of a map
pub data GotEntries : Entries → ℕ → Input → Entries × ℕ → Input → Type 0 where
  got_entries : {found xs : Entries} {d : ℕ} {i a : Input} {z : Entries × ℕ} → DerivesEntries xs i a → kind a ≡ k.RightBrace → z.0 ≡ join_entries found xs → z.1 ≡ max d (entries_depth xs) → GotEntries found d i z (next a)

pub no-more-entries : (found : Entries) (d : ℕ) (i : Input) → kind i ≡ k.RightBrace → GotEntries found d i (found, d) (next i)
no-more-entries found d i h = got_entries no_entries h (sym (join-no-entries found)) (omega arith)

pub last-entry : (found : Entries) (s : Option Key) (x : Expr) (d : ℕ) (i a : Input) → DerivesEntry s x i a → kind a ≡ k.RightBrace → GotEntries found d i (join_entries found (r.one_entry s x), max d (depth x)) (next a)
last-entry found s x d i a p h = got_entries (one_entry p) h refl (omega arith)

pub an-entry-more : (found : Entries) (s : Option Key) (x : Expr) (d : ℕ) (i a j : Input) (z : Entries × ℕ) → DerivesEntry s x i a → kind a ≡ k.Comma → GotEntries (join_entries found (r.one_entry s x)) (max d (depth x)) (next a) z j
    → GotEntries found d i z j
an-entry-more found s x d i a j z p h (got_entries {xs = xs} q g e f) = got_entries (more_entries p h q) g (e ∙ join-entries found (r.one_entry s x) xs) (omega arith)

-- what stands before the value of an entry
abbrev pub Keyed : Option Key → Input → Input → Type 0
Keyed key i m = (x : Expr) (a : Input) → Derives 0 x m a → DerivesEntry key x i a

pub keyed-got : (o : Option Key) (i m : Input) (key : Option Key) → key_at i ≡ o → r.keyed o i ≡ Some (key, m) → Keyed key i m
keyed-got None i m key e h = cc
keyed-got (Some word) i m key e h =
    let q = and_then-some (expect k.Colon (next i)) (λ _. λ j. at (Some word) j) (key, m) h in
    let u = expect-some k.Colon (next i) q.1 q.0 q.2 in
    same-value (λ key m. Keyed key i m) (Some word) key q.1 m q.3 (λ x a d. keyed e u.0 (subst (λ j. Derives 0 x j a) u.1 d))

pub entry_key-got : (i m : Input) (key : Option Key) → r.entry_key i ≡ Some (key, m) → Keyed key i m
unfolding r.entry_key
entry_key-got i m key h =
    either (chosen (same k.Spread (kind i)) (at None (next i)) (r.keyed (key_at i) i) (Some (key, m)) h)
    (λ q. same-value (λ key m. Keyed key i m) None key (next i) m q.1 (λ x a d. spread_map (same-is k.Spread (kind i) q.0) d))
    (λ q. keyed-got (key_at i) i m key refl q.1)

pub item-at : (t : Bool) (x : Expr) (i a : Input) → same k.Spread (kind i) ≡ t → Derives 0 x (if t then next i else i) a → DerivesItem t x i a
item-at true x i a e d = spread (same-is k.Spread (kind i) e) d
item-at false x i a e d = plain d
