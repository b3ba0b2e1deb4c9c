-- All spans of an expression lie inside the text that its tokens stand in.
use Rattle.std.proofs.Common.{◌≡◌, ℕ, ◌≤◌, Bool, true, Option, refl, arith}
use Rattle.tera_errors.specs.declared.span.Span.{Span}
use Rattle.tera_syntax_tree.specs.Tree.{Expr, Text, Optional, Items, Key, Entries, Arguments, Filters}
use Rattle.tera_syntax_tree.specs.Inside.{Within, ExprInside, OptionalInside, ItemsInside, EntriesInside, ArgumentsInside, FiltersInside}
use Rattle.tera_syntax_tokens.specs.declared.token.Kind.{Kind}
use Rattle.tera_syntax_tokens.specs.declared.token.Kind.TheVariants as k
use Rattle.tera_syntax_tokens.specs.Input.{Input, kind, start, text, next, span, is_word}
use Rattle.tera_syntax_tokens.proofs.Order.{Orderly, Onward, onward_none, onward_then, onward_next, start_le, in_order-le}
use Rattle.tera_syntax_expressions.specs.Grammar.{Operator, or, and, equal, not_equal, less, greater, less_or_equal, greater_or_equal, is_in, concat, add, subtract, multiply, divide, floor_divide, remainder, Derives, quoted, tighter, choice, operation, not, not_in, minus, power, attribute, index, slice, DerivesPart, absent, present, DerivesStep, no_step, step, int, is_true, is_false, nothing, name, of_loop, parentheses, array, map, DerivesEntry, keyed, spread_map, DerivesEntries, no_entries, one_entry, more_entries, DerivesItem, plain, spread, DerivesItems, none, one, more, comprehension, DerivesCondition, no_condition, condition, call, component, DerivesValue, text_value, braced_value, DerivesAttribute, named_attribute, spread_attribute, DerivesAttributes, no_attributes, more_attributes, filter, test, not_test, DerivesArgument, argument, DerivesArguments, no_arguments, one_argument, more_arguments, DerivesGiven, not_given, given, DerivesFilters, last_filter, more_filters}
use Rattle.tera_syntax_expressions.proofs.Calls.{calls_lie}
use Rattle.tera_syntax_expressions.proofs.ArgumentRows.{put-inside, call-inside}
use Rattle.tera_syntax_expressions.proofs.Extent.{word-some}

-- what was read between two positions, in order, lies inside
pub record Read (size : ℕ) (P : Type 0) (i j : Input) : Type 0 where
  pub inside : P
  pub onward : Onward size i j

-- the same of an expression, which begins where the first position does
pub record Lies (size : ℕ) (x : Expr) (i j : Input) : Type 0 where
  pub inside : ExprInside size x
  pub starts : start i ≤ j.last
  pub onward : Onward size i j

module _ (size : ℕ) where
  within : (from : ℕ) (j : Input) → from ≤ j.last → Orderly size j → Within size (span from j)
  within from j l h = (l, in_order-le size j.last j.ahead h)

  -- what goes on from an expression
  goes_on : {x y : Expr} {i a j : Input} → Lies size x i a → Onward size a j → (Within size (span (start i) j) → ExprInside size y) → Lies size y i j
  goes_on {i = i} {j = j} p w f =
      let a = p.starts in let b = w.later in
      let l : start i ≤ j.last = omega arith in
      record { inside = f (within (start i) j l w.orderly); starts = l; onward = onward_then p.onward w }

  -- what begins with a token
  begins : {y : Expr} {j : Input} (s : Kind) (i : Input) → kind i ≡ s → (s ≡ k.End → ⊥) → Orderly size i → Onward size (next i) j → (Within size (span (start i) j) → ExprInside size y) → Lies size y i j
  begins {j = j} s i e n o w f =
      let a = start_le size s i e n o in let b = w.later in
      let l : start i ≤ j.last = omega arith in
      record { inside = f (within (start i) j l w.orderly); starts = l; onward = onward_then (onward_next size i o) w }

  leaf : {y : Expr} (s : Kind) (i : Input) → kind i ≡ s → (s ≡ k.End → ⊥) → Orderly size i → (Within size (span (start i) (next i)) → ExprInside size y) → Lies size y i (next i)
  leaf s i e n o f = begins s i e n o (onward_none size (next i) (onward_next size i o).orderly) f

  operated : {s : Kind} {form : Expr → Expr → Span → Expr} {l : ℕ} {position : Span} → Operator s form l → (x y : Expr) → ExprInside size x → ExprInside size y → Within size position → ExprInside size (form x y position)
  operated or x y a b w = (a, b, w)
  operated and x y a b w = (a, b, w)
  operated equal x y a b w = (a, b, w)
  operated not_equal x y a b w = (a, b, w)
  operated less x y a b w = (a, b, w)
  operated greater x y a b w = (a, b, w)
  operated less_or_equal x y a b w = (a, b, w)
  operated greater_or_equal x y a b w = (a, b, w)
  operated is_in x y a b w = (a, b, w)
  operated concat x y a b w = (a, b, w)
  operated add x y a b w = (a, b, w)
  operated subtract x y a b w = (a, b, w)
  operated multiply x y a b w = (a, b, w)
  operated divide x y a b w = (a, b, w)
  operated floor_divide x y a b w = (a, b, w)
  operated remainder x y a b w = (a, b, w)

  past : (i : Input) → Orderly size i → Onward size i (next i)
  past i o = onward_next size i o

  -- what was read of an expression
  whole : {x : Expr} {i j : Input} → Lies size x i j → Read size (ExprInside size x) i j
  whole p = record { inside = p.inside; onward = p.onward }

  -- nothing but what was there before
  stays : {P : Type 0} (i : Input) → P → Orderly size i → Read size P i i
  stays i p o = record { inside = p; onward = onward_none size i o }

  -- what is read behind a token
  behind : {P : Type 0} {j : Input} (i : Input) → Orderly size i → (Orderly size (next i) → Read size P (next i) j) → Read size P i j
  behind i o read = let n = past i o in let p = read n.orderly in record { inside = p.inside; onward = onward_then n p.onward }

  -- what was read, and a token that closes it
  closed : {P : Type 0} {i : Input} (a : Input) → Read size P i a → Read size P i (next a)
  closed a p = record { inside = p.inside; onward = onward_then p.onward (past a p.onward.orderly) }

  -- one behind another
  both : {P Q : Type 0} {i a j : Input} → Read size P i a → Read size Q a j → Read size (P × Q) i j
  both p r = record { inside = (p.inside, r.inside); onward = onward_then p.onward r.onward }

  mutual
    pub expr_lies : {l : ℕ} {x : Expr} {i j : Input} → Derives l x i j → Orderly size i → Lies size x i j
    expr_lies (tighter d) o = expr_lies d o
    expr_lies (choice {a = a} {b = b} d h f g q) o =
        let p = expr_lies d o in
        let n = past a p.onward.orderly in
        let r = expr_lies f n.orderly in
        let m = past b r.onward.orderly in
        let s = expr_lies q m.orderly in
        goes_on p (onward_then n (onward_then r.onward (onward_then m s.onward))) (λ w. (p.inside, r.inside, s.inside, w))
    expr_lies (operation {a = a} op d h f) o =
        let p = expr_lies d o in
        let r = behind a p.onward.orderly (λ o. whole (expr_lies f o)) in
        goes_on p r.onward (λ w. operated op _ _ p.inside r.inside w)
    expr_lies (not {i = i} h d) o =
        let p = expr_lies d (past i o).orderly in
        begins k.Not i h (λ e. cc) o p.onward (λ w. (p.inside, w))
    expr_lies (not_in {a = a} d h g f) o =
        let p = expr_lies d o in
        let r = behind a p.onward.orderly (λ o. behind (next a) o (λ o. whole (expr_lies f o))) in
        goes_on p r.onward (λ w. ((p.inside, r.inside, w), w))
    expr_lies (minus {i = i} h d) o =
        let p = expr_lies d (past i o).orderly in
        begins k.Minus i h (λ e. cc) o p.onward (λ w. (p.inside, w))
    expr_lies (power {a = a} d h f) o =
        let p = expr_lies d o in
        let r = behind a p.onward.orderly (λ o. whole (expr_lies f o)) in
        goes_on p r.onward (λ w. (p.inside, r.inside, w))
    expr_lies (attribute {a = a} dot d h g) o =
        let p = expr_lies d o in
        let n = past a p.onward.orderly in
        goes_on p (onward_then n (past (next a) n.orderly)) (λ w. (p.inside, w))
    expr_lies (index {a = a} {b = b} bracket d h f g) o =
        let p = expr_lies d o in
        let r = behind a p.onward.orderly (λ o. closed b (whole (expr_lies f o))) in
        goes_on p r.onward (λ w. (p.inside, r.inside, w))
    expr_lies (slice {a = a} {b = b} {c = c} {d = e} bracket d h f g q t u) o =
        let p = expr_lies d o in
        let n = past a p.onward.orderly in
        let from = part_lies f n.orderly in
        let m = past b from.onward.orderly in
        let to = part_lies q m.orderly in
        let by = step_lies t to.onward.orderly in
        goes_on p (onward_then n (onward_then from.onward (onward_then m (onward_then to.onward (onward_then by.onward (past e by.onward.orderly))))))
        (λ w. (p.inside, from.inside, to.inside, by.inside, w))
    expr_lies (int {i = i} h e) o = leaf k.Int i h (λ e. cc) o (λ w. w)
    expr_lies (quoted {i = i} h e) o = leaf k.Text i h (λ e. cc) o (λ w. w)
    expr_lies (is_true {i = i} h) o = leaf k.True i h (λ e. cc) o (λ w. w)
    expr_lies (is_false {i = i} h) o = leaf k.False i h (λ e. cc) o (λ w. w)
    expr_lies (nothing {i = i} h) o = leaf k.Nothing i h (λ e. cc) o (λ w. w)
    expr_lies (name {i = i} h e g) o = leaf k.Name i h (λ e. cc) o (λ w. w)
    expr_lies (of_loop {i = i} h e) o =
        let n = past i o in
        let m = past (next i) n.orderly in
        begins k.Name i h (λ e. cc) o (onward_then m (past (next (next i)) m.orderly)) (λ w. w)
    expr_lies (parentheses {i = i} {a = a} h d g) o =
        let p = closed a (whole (expr_lies d (past i o).orderly)) in
        begins k.LeftParenthesis i h (λ e. cc) o p.onward (λ w. p.inside)
    expr_lies (array {i = i} {a = a} h d g) o =
        let p = closed a (items_lie d (past i o).orderly) in
        begins k.LeftBracket i h (λ e. cc) o p.onward (λ w. (p.inside, w))
    expr_lies (map {i = i} {a = a} h d g) o =
        let p = closed a (entries_lie d (past i o).orderly) in
        begins k.LeftBrace i h (λ e. cc) o p.onward (λ w. (p.inside, w))
    expr_lies (comprehension {i = i} {a = a} {d = e} h d f c t q g) o =
        let p = expr_lies d (past i o).orderly in
        let n = past a p.onward.orderly in
        let m = calls_lie size c n.orderly in
        let r = expr_lies t m.orderly in
        let s = condition_lies q r.onward.orderly in
        begins k.LeftBracket i h (λ e. cc) o (onward_then p.onward (onward_then n (onward_then m (onward_then r.onward (onward_then s.onward (past e s.onward.orderly))))))
        (λ w. (p.inside, r.inside, s.inside, w))
    expr_lies (call {i = i} {a = a} h e d g) o =
        let p = behind (next i) (past i o).orderly (λ o. closed a (arguments_lie d o tt)) in
        begins k.Name i h (λ e. cc) o p.onward (λ w. call-inside size (text i) _ (span (start i) (next a)) p.inside w)
    expr_lies (component {i = i} {a = a} h w d g) o =
        let p = behind (next i) (past i o).orderly (λ o. closed a (attributes_lie d o)) in
        begins k.Less i h (λ e. cc) o p.onward (λ w. (p.inside, w))
    expr_lies (filter {a = a} d h g q) o =
        let p = expr_lies d o in
        let r = behind a p.onward.orderly (λ o. behind (next a) o (λ o. given_lies q o)) in
        goes_on p r.onward (λ w. (p.inside, r.inside, w))
    expr_lies (test {a = a} d h g q) o =
        let p = expr_lies d o in
        let r = behind a p.onward.orderly (λ o. behind (next a) o (λ o. given_lies q o)) in
        goes_on p r.onward (λ w. (p.inside, r.inside, w))
    expr_lies (not_test {a = a} d h f g q) o =
        let p = expr_lies d o in
        let r = behind a p.onward.orderly (λ o. behind (next a) o (λ o. behind (next (next a)) o (λ o. given_lies q o))) in
        goes_on p r.onward (λ w. ((p.inside, r.inside, w), w))

    value_lies : {x : Expr} {i j : Input} → DerivesValue x i j → Orderly size i → Read size (ExprInside size x) i j
    value_lies (text_value {t = t} {i = i} h e) o = whole (leaf {y = Text t (span (start i) (next i))} k.Text i h (λ e. cc) o (λ w. w))
    value_lies (braced_value {i = i} {a = a} h d g) o = behind i o (λ o. closed a (whole (expr_lies d o)))

    attribute_lies : {key : Option Key} {x : Expr} {i j : Input} → DerivesAttribute key x i j → Orderly size i → Read size (ExprInside size x) i j
    attribute_lies (named_attribute {i = i} h q v) o = behind i o (λ o. behind (next i) o (λ o. value_lies v o))
    attribute_lies (spread_attribute {i = i} {a = a} h q d g) o = behind i o (λ o. behind (next i) o (λ o. closed a (whole (expr_lies d o))))

    pub attributes_lie : {xs : Entries} {i j : Input} → DerivesAttributes xs i j → Orderly size i → Read size (EntriesInside size xs) i j
    attributes_lie (no_attributes {i = i}) o = stays i tt o
    attributes_lie (more_attributes d q) o = let p = attribute_lies d o in both p (attributes_lie q p.onward.orderly)

    given_lies : {all : Arguments} {i j : Input} → DerivesGiven all i j → Orderly size i → Read size (ArgumentsInside size all) i j
    given_lies (not_given {i = i} h) o = stays i tt o
    given_lies (given {i = i} {a = a} h d g) o = behind i o (λ o. closed a (arguments_lie d o tt))

    argument_lies : {found all : Arguments} {i j : Input} → DerivesArgument found all i j → Orderly size i → ArgumentsInside size found → Read size (ArgumentsInside size all) i j
    argument_lies (argument {found = found} {all = all} {x = x} {i = i} h q d e) o before =
        let n = past i o in
        let m = past (next i) n.orderly in
        let p = expr_lies d m.orderly in
        record { inside = put-inside size (text i) x found all e p.inside before; onward = onward_then n (onward_then m p.onward) }

    arguments_lie : {found all : Arguments} {i j : Input} → DerivesArguments found all i j → Orderly size i → ArgumentsInside size found → Read size (ArgumentsInside size all) i j
    arguments_lie (no_arguments {i = i}) o before = stays i before o
    arguments_lie (one_argument d) o before = argument_lies d o before
    arguments_lie (more_arguments {a = a} d h q) o before =
        let p = argument_lies d o before in
        let r = behind a p.onward.orderly (λ o. arguments_lie q o p.inside) in
        record { inside = r.inside; onward = onward_then p.onward r.onward }

    condition_lies : {p : Optional} {i j : Input} → DerivesCondition p i j → Orderly size i → Read size (OptionalInside size p) i j
    condition_lies (no_condition {i = i}) o = stays i tt o
    condition_lies (condition {i = i} h d) o = behind i o (λ o. whole (expr_lies d o))

    part_lies : {p : Optional} {i j : Input} → DerivesPart p i j → Orderly size i → Read size (OptionalInside size p) i j
    part_lies (absent {i = i}) o = stays i tt o
    part_lies (present d) o = whole (expr_lies d o)

    step_lies : {p : Optional} {i j : Input} → DerivesStep p i j → Orderly size i → Read size (OptionalInside size p) i j
    step_lies (no_step {i = i}) o = stays i tt o
    step_lies (step {i = i} h f) o = behind i o (λ o. part_lies f o)

    item_lies : {s : Bool} {x : Expr} {i j : Input} → DerivesItem s x i j → Orderly size i → Read size (ExprInside size x) i j
    item_lies (plain d) o = whole (expr_lies d o)
    item_lies (spread {i = i} h d) o = behind i o (λ o. whole (expr_lies d o))

    items_lie : {xs : Items} {i j : Input} → DerivesItems xs i j → Orderly size i → Read size (ItemsInside size xs) i j
    items_lie (none {i = i}) o = stays i tt o
    items_lie (one d) o = let p = item_lies d o in record { inside = (p.inside, tt); onward = p.onward }
    items_lie (more {a = a} d h q) o = let p = item_lies d o in both p (behind a p.onward.orderly (λ o. items_lie q o))

    entry_lies : {key : Option Key} {x : Expr} {i j : Input} → DerivesEntry key x i j → Orderly size i → Read size (ExprInside size x) i j
    entry_lies (keyed {i = i} h q d) o = behind i o (λ o. behind (next i) o (λ o. whole (expr_lies d o)))
    entry_lies (spread_map {i = i} h d) o = behind i o (λ o. whole (expr_lies d o))

    entries_lie : {xs : Entries} {i j : Input} → DerivesEntries xs i j → Orderly size i → Read size (EntriesInside size xs) i j
    entries_lie (no_entries {i = i}) o = stays i tt o
    entries_lie (one_entry d) o = let p = entry_lies d o in record { inside = (p.inside, tt); onward = p.onward }
    entries_lie (more_entries {a = a} d h q) o = let p = entry_lies d o in both p (behind a p.onward.orderly (λ o. entries_lie q o))

  -- what begins with a word
  named : (i j : Input) → is_word (kind i) ≡ true → Orderly size i → Onward size (next i) j → Within size (span (start i) j)
  named i j h o w =
      let a = start_le size (kind i) i refl (word-some i h) o in let b = w.later in
      within (start i) j (omega arith) w.orderly

  pub filters_lie : {fs : Filters} {i j : Input} → DerivesFilters fs i j → Orderly size i → Read size (FiltersInside size fs) i j
  filters_lie (last_filter {i = i} {j = j} h q) o =
      let n = past i o in
      let r = given_lies q n.orderly in
      record { inside = (r.inside, named i j h o r.onward, tt); onward = onward_then n r.onward }
  filters_lie (more_filters {i = i} {a = a} h q g u) o =
      let n = past i o in
      let r = given_lies q n.orderly in
      let m = past a r.onward.orderly in
      let s = filters_lie u m.orderly in
      record { inside = (r.inside, named i a h o r.onward, s.inside); onward = onward_then n (onward_then r.onward (onward_then m s.onward)) }
