-- A recursion on a count of rounds, beside a loop that counts up.
use Rattle.std.proofs.Common.{◌≡◌, ℕ, zero, suc, ◌+◌, ◌-◌, ◌<◌, ◌≤◌, ap, ap₂, ◌∙◌, arith, refl, sym, Option, Some, None, Bool, not, max, List, [], ◌∷◌, ◌++◌, true, drop, drop-drop, nat_eq, false, if◌then◌else◌}
use Rattle.std.proofs.lemmas.Grind.{common_steps}
use Rattle.std.proofs.Math.Bool.{not-not}
use Rattle.tera_syntax_tokens.specs.declared.refusal.Refusal.{Refusal}
use Rattle.tera_syntax_tokens.specs.declared.refusal.Refusal.TheVariants.{Syntax, OutOfMemory}
use Rattle.tera_syntax_tokens.specs.Answers.{Refuses, IsSyntax}
use Rattle.tera_syntax_tree.specs.Tree.{Items, MoreItems, Key, Entries, MoreEntries}
use Rattle.tera_syntax_tree.specs.View.{items_of, entries_of, literal_option, expr_of}
use Rattle.tera_syntax_tree.specs.declared.expression.Item as item
use Rattle.tera_syntax_tree.specs.declared.expression.EntryExpression as entry
use Rattle.tera_syntax_tokens.specs.Token.{Token}
use Rattle.tera_syntax_tokens.specs.declared.token.Kind.{Kind}
use Rattle.tera_syntax_tokens.specs.declared.token.Kind.TheVariants.{LeftParenthesis, RightParenthesis, RightBracket, RightBrace, Comma, Spread}
use Rattle.tera_syntax_tokens.specs.Input.{Input, Parsed, Parser, and_then, kind, next, after, same, start, starts, start_of, expect}
use Rattle.tera_syntax_expressions.specs.CommaLists.{comma_or}
use Rattle.tera_syntax_expressions.specs.Precedence as precedence
use Rattle.tera_syntax_expressions.specs.Expressions.{Deep, join_items, one_item, join_entries, one_entry, entry_key, entry_rest, entries_from, behind_dots, behind_item, items_from, expr, level, climb, goes_on, gives, operation, floor_in, opened}

pub one_more : {X : Type 0} {x : X} (f : ℕ → X) (n at : ℕ) → at < n → x ≡ f (n - at) → x ≡ f (suc (n - (at + 1)))
one_more f n at below e = let round : n - at ≡ suc (n - (at + 1)) = omega arith in e ∙ ap f round

pub no_more : {X : Type 0} {x : X} (f : ℕ → X) (n at : ℕ) → n ≤ at → x ≡ f (n - at) → x ≡ f 0
no_more f n at done e = let none : n - at ≡ 0 = omega arith in e ∙ ap f none

pub deeper : {X : Type 0} (f : ℕ → X) (n : ℕ) → 0 < n → f n ≡ f (suc (n - 1))
deeper f n some = let e : n ≡ suc (n - 1) = omega arith in ap f e

pub expr_more : (limit floor : ℕ) (i : Input) → 0 < limit → expr limit floor i ≡ level limit (expr (limit - 1)) floor i
unfolding expr
expr_more zero floor i h = absurd (omega arith)
expr_more (suc n) floor i h = let e : suc n - 1 ≡ n = omega arith in rw e refl

pub expr_none : (limit floor : ℕ) (i : Input) → limit ≡ 0 → expr limit floor i ≡ None
unfolding expr
expr_none zero floor i h = refl
expr_none (suc n) floor i h = absurd (omega arith)

-- a round of `climb`, by the count of open parentheses
abbrev pub climb_round : ℕ → (ℕ → Parser Deep) → ℕ → ℕ → ℕ → ℕ → ℕ → List Token → Deep → Input → Parsed Deep
climb_round limit sub n opens floor have from ahead x i =
    if goes_on (if nat_eq opens 0 then floor else precedence.choice) have (kind i) then and_then (operation limit sub from x i) (climb limit sub n (starts ahead opens) floor (gives (kind i)) from)
    else (if nat_eq opens 0 then Some (x, i) else (if same RightParenthesis (kind i) then climb limit sub n (starts ahead (opens - 1)) floor precedence.operand (start_of (drop (opens - 1) ahead)) x (next i) else None))

climb_here : (limit : ℕ) (sub : ℕ → Parser Deep) (n opens floor have from : ℕ) (ahead : List Token) (x : Deep) (i : Input)
    → climb limit sub (suc n) (starts ahead opens) floor have from x i ≡ climb_round limit sub n opens floor have from ahead x i
unfolding climb
climb_here limit sub n zero floor have from ahead x i = refl
climb_here limit sub n (suc p) floor have from ahead x i = let e : suc p - 1 ≡ p = omega arith in let f : nat_eq (suc p) 0 ≡ false = grind (arith, common_steps) in rw (e, f) refl

pub climb_once : {meant : Parsed Deep} (limit : ℕ) (sub : ℕ → Parser Deep) (n at opens floor have from : ℕ) (ahead : List Token) (x : Deep) (i : Input) → at < n
    → meant ≡ climb limit sub (n - at) (starts ahead opens) floor have from x i → meant ≡ climb_round limit sub (n - (at + 1)) opens floor have from ahead x i
climb_once limit sub n at opens floor have from ahead x i lt round =
    one_more (λ n. climb limit sub n (starts ahead opens) floor have from x i) n at lt round ∙ climb_here limit sub (n - (at + 1)) opens floor have from ahead x i

pub floor_is : (ahead : List Token) (opens floor : ℕ) → floor_in (starts ahead opens) floor ≡ (if nat_eq opens 0 then floor else precedence.choice)
floor_is ahead zero floor = refl
floor_is ahead (suc p) floor = let f : nat_eq (suc p) 0 ≡ false = grind (arith, common_steps) in rw f refl

pub ahead_next : (i : Input) (n : ℕ) (ahead : List Token) → i.ahead ≡ drop n ahead → (next i).ahead ≡ drop (n + 1) ahead
unfolding next
ahead_next i n ahead h = go i.ahead i.last i.in_loop ∙ ap (drop 1) h ∙ drop-drop 1 n ahead
  where
    go : (ts : List Token) (last : ℕ) (q : Bool) → (after ts last q).ahead ≡ drop 1 ts
    go [] last q = refl
    go (t ∷ ts) last q = refl

pub opened_more : (n count : ℕ) (ahead : List Token) (i : Input) → i.ahead ≡ drop count ahead → same LeftParenthesis (kind i) ≡ true
    → opened (suc n) (starts ahead count) i ≡ opened n (starts ahead (count + 1)) (next i)
unfolding opened start
opened_more n count ahead i h e =
    let f : count + 1 ≡ suc count = omega arith in
    rw (e, f, h) refl

pub opened_round : {X : Option (List ℕ × Input)} (n count : ℕ) (ahead : List Token) (i j : Input) → X ≡ opened (suc n) (starts ahead count) i → i.ahead ≡ drop count ahead
    → same LeftParenthesis (kind i) ≡ true → j ≡ next i → (j.ahead ≡ drop (count + 1) ahead) × (X ≡ opened n (starts ahead (count + 1)) j)
opened_round n count ahead i j e h s t =
    (ap (λ i. i.ahead) t ∙ ahead_next i count ahead h, e ∙ opened_more n count ahead i h s ∙ ap (opened n (starts ahead (count + 1))) (let z : next i ≡ j = sym t in z))

pub refuses : {Y : Type 0} {meant : Option Y} (r : Refusal) → IsSyntax r → meant ≡ None → Refuses meant r
refuses (Syntax why position) h e = e
refuses OutOfMemory h e = absurd h

-- rows of items
pub items_of-push : (all : List item.Item) (i : item.Item) → items_of (all ++ i ∷ []) ≡ join_items (items_of all) (one_item i.is_spread (expr_of i.value))
items_of-push [] i = refl
items_of-push (j ∷ all) i = ap (MoreItems j.is_spread (expr_of j.value)) (items_of-push all i)

-- what a test of a token's kind tells of the next token
pub tested : (test : Kind → Bool) {at here : Kind} {b v : Bool} → at ≡ here → b ≡ test at → b ≡ v → test here ≡ v
tested test e t v = ap test (sym e) ∙ sym t ∙ v

-- the same where the code asks for the contrary
pub tested-not : (test : Kind → Bool) {at here : Kind} {b v : Bool} → at ≡ here → b ≡ not (test at) → b ≡ v → test here ≡ not v
tested-not test {at} e t v = tested test e (ap not t ∙ not-not (test at)) (ap not v)

-- behind a part stands a comma and more, or what closes
abbrev pub behind : {S : Type 0} → Kind → (S → Parser S) → S → Parser S
behind closing more found j = if same Comma (kind j) then more found (next j) else and_then (expect closing j) (λ done. λ a. Some (found, a))

pub record Behind {S : Type 0} (meant : Parsed S) (closing : Kind) (more : S → Parser S) (found : S) (j : Input) : Type 0 where
  pub is : meant ≡ behind closing more found j

pub behind_these : {A : Type 0} {meant : Parsed (A × ℕ)} (closing : Kind) (more : A → ℕ → Parser (A × ℕ)) (j : Input) {found all : A} {d most : ℕ} → meant ≡ behind closing (λ (p : A × ℕ). more p.0 p.1) (found, d) j
    → all ≡ found → most ≡ d → Behind meant closing (λ (p : A × ℕ). more p.0 p.1) (all, most) j
behind_these closing more j e f g = record { is = e ∙ ap₂ (λ found d. behind closing (λ (p : _ × ℕ). more p.0 p.1) (found, d) j) (sym f) (sym g) }

-- what is read behind it
pub read_behind : {S : Type 0} {meant : Parsed S} {closing : Kind} {more : S → Parser S} {found : S} {j : Input} {o : Parsed Bool} → Behind meant closing more found j → comma_or closing j ≡ o
    → meant ≡ and_then o (λ is_comma. λ a. if is_comma then more found a else Some (found, a))
unfolding comma_or
read_behind {S = S} {closing = closing} {more = more} {found = found} {j = j} b e = b.is ∙ go (same Comma (kind j)) (expect closing j) ∙ ap (λ o. and_then o rest) e
  where
    rest : Bool → Parser S
    rest is_comma = λ a. if is_comma then more found a else Some (found, a)

    go : (c : Bool) (o : Parsed (Unit {0})) → (if c then more found (next j) else and_then o (λ done. λ a. Some (found, a))) ≡ and_then (if c then Some (true, next j) else and_then o (λ done. λ a. Some (false, a))) rest
    go true o = refl
    go false None = refl
    go false (Some p) = refl

-- A round of the loop over items: what closes, no item, and an item with what is behind it
module _ (limit : ℕ) (sub : ℕ → Parser Deep) {meant : Parsed (Items × ℕ)} (n at : ℕ) (found : Items) (d : ℕ) (i : Input) (lt : at < n) (round : meant ≡ items_from limit sub (n - at) found d i) where
  abbrev item_rest : Deep → Parser (Items × ℕ)
  item_rest x = behind_item limit sub (items_from limit sub (n - (at + 1))) (join_items found (one_item (same Spread (kind i)) x.expr)) (max d x.depth)

  pub items_end : same RightBracket (kind i) ≡ true → {j : Input} → j ≡ next i → meant ≡ Some ((found, d), j)
  unfolding items_from
  items_end h e = one_more (λ n. items_from limit sub n found d i) n at lt round ∙ rw h (ap (λ j. Some ((found, d), j)) (sym e))

  pub items_next : same RightBracket (kind i) ≡ false → {o : Parsed Deep} → sub 0 (behind_dots i) ≡ o → meant ≡ and_then o item_rest
  unfolding items_from
  items_next h e = one_more (λ n. items_from limit sub n found d i) n at lt round ∙ rw h (ap (λ o. and_then o item_rest) e)

  pub items_read : same RightBracket (kind i) ≡ false → {x : Deep} {j : Input} → sub 0 (behind_dots i) ≡ Some (x, j) → {all : Items} → all ≡ join_items found (one_item (same Spread (kind i)) x.expr)
      → {most : ℕ} → most ≡ max d x.depth → Behind meant RightBracket (λ (p : Items × ℕ). items_from limit sub (n - (at + 1)) p.0 p.1) (all, most) j
  items_read h {j = j} e f g = behind_these RightBracket (items_from limit sub (n - (at + 1))) j (items_next h e) f g

-- a refusal of a part is one of the whole
pub refused : {Y Z : Type 0} {part : Option Y} {meant : Option Z} (r : Refusal) → (part ≡ None → meant ≡ None) → Refuses part r → Refuses meant r
refused (Syntax why position) f h = f h
refused OutOfMemory f h = tt

-- rows of entries
pub entries_of-push : (all : List entry.EntryExpression) (i : entry.EntryExpression) → entries_of (all ++ i ∷ []) ≡ join_entries (entries_of all) (one_entry (literal_option i.key) (expr_of i.value))
entries_of-push [] i = refl
entries_of-push (j ∷ all) i = ap (MoreEntries (literal_option j.key) (expr_of j.value)) (entries_of-push all i)

-- the same of the loop over entries
module _ (limit : ℕ) (sub : ℕ → Parser Deep) {meant : Parsed (Entries × ℕ)} (n at : ℕ) (found : Entries) (d : ℕ) (i : Input) (lt : at < n) (round : meant ≡ entries_from limit sub (n - at) found d i) where
  abbrev behind_key : Option Key → Parser (Entries × ℕ)
  behind_key key j = and_then (sub 0 j) (entry_rest limit sub (entries_from limit sub (n - (at + 1))) found d key)

  pub entries_end : same RightBrace (kind i) ≡ true → {j : Input} → j ≡ next i → meant ≡ Some ((found, d), j)
  unfolding entries_from
  entries_end h e = one_more (λ n. entries_from limit sub n found d i) n at lt round ∙ rw h (ap (λ j. Some ((found, d), j)) (sym e))

  entries_next : same RightBrace (kind i) ≡ false → meant ≡ and_then (entry_key i) behind_key
  unfolding entries_from
  entries_next h = one_more (λ n. entries_from limit sub n found d i) n at lt round ∙ rw h refl

  none_by : (o : Parsed (Option Key)) → and_then o (λ key. sub 0) ≡ None → and_then o behind_key ≡ None
  none_by None h = refl
  none_by (Some p) h = ap (λ o. and_then o (entry_rest limit sub (entries_from limit sub (n - (at + 1))) found d p.0)) h

  pub entries_none : same RightBrace (kind i) ≡ false → and_then (entry_key i) (λ key. sub 0) ≡ None → meant ≡ None
  entries_none h e = entries_next h ∙ none_by (entry_key i) e

  pub entries_read : same RightBrace (kind i) ≡ false → {key : Option Key} {m : Input} → entry_key i ≡ Some (key, m) → {x : Deep} {j : Input} → sub 0 m ≡ Some (x, j)
      → {all : Entries} → all ≡ join_entries found (one_entry key x.expr) → {most : ℕ} → most ≡ max d x.depth
      → Behind meant RightBrace (λ (p : Entries × ℕ). entries_from limit sub (n - (at + 1)) p.0 p.1) (all, most) j
  entries_read h {key = key} e {j = j} p f g =
      behind_these RightBrace (entries_from limit sub (n - (at + 1))) j (entries_next h ∙ ap (λ o. and_then o behind_key) e ∙ ap (λ o. and_then o (entry_rest limit sub (entries_from limit sub (n - (at + 1))) found d key)) p) f g
