-- Operators answer values that stand to each other for values that do.
use Rattle.std.proofs.Common.{◌≡◌, ℕ, Bool, true, false, cond, List, [], ◌∷◌, ◌++◌, refl, ap, ◌∙◌, Option, Some, None, Result, Ok, Err, is_some, is_none}
use Rattle.std.specs.List.{list_any}
use Rattle.tera_errors.specs.declared.span.Span.{Span}
use Rattle.tera_errors.specs.Site.{Name}
use Rattle.tera_errors.specs.Fault.{Fault}
use Rattle.tera_syntax_tree.specs.Tree.{Key}
use Rattle.tera_syntax_tree.specs.declared.expression.BinaryOperator.{BinaryOperator}
use Rattle.tera_syntax_tree.specs.declared.expression.BinaryOperator.TheVariants as op
use Rattle.tera_meaning.proofs.Marks.Claim.{Claim}
use Rattle.tera_meaning.proofs.Marks.Each.{Each, none, more, each-append}
use Rattle.tera_meaning.proofs.Marks.Standing.{Stands, undefineds, bools, ints, texts, arrays, maps, lowered, printed-each, bare-is, answers-stand, OptionStands, no_value, value, ResultStands, answers, refuses}
use Rattle.tera_meaning.proofs.Marks.Moving.{undefined-same, truthy-same, int-same, Pair, each-stands, all-stand, pairs-stand, entries-stand, find-stands, attr-stands, or_undefined-stands, get_item-stands, slice-stands, inserted-stands}
use Rattle.tera_values.specs.Alphabet.{Marked, plain, marking}
use Rattle.tera_values.specs.Val as val
use Rattle.tera_values.specs.Val.{Val, KeyVal, ValOf}
use Rattle.tera_values.specs.Access.{find}
use Rattle.std.specs.declared.cmp.Ordering.{Ordering}
use Rattle.std.specs.Ordering.{is_lt, is_gt, is_le, is_ge}
use Rattle.tera_values.specs.Printed.{printed_of}
use Rattle.tera_values.specs.Slices.{contains}
use Rattle.tera_values.specs.Number.{add, sub, mul, div, floor_div, rem, pow, negate}
use Rattle.tera_operators.specs.Operand as o
use Rattle.tera_operators.specs.Operand.{EvaluatedOf, OutcomeOf, at_span, known, placed, spanning}
use Rattle.tera_operators.specs.Accesses as acc
use Rattle.tera_operators.specs.Literals as lit
use Rattle.tera_operators.specs.Operators as ops
use Rattle.tera_meaning.proofs.Marks.Reckoning.{AlwaysHolds, negate-holds, add-holds, sub-holds, mul-holds, div-holds, floor_div-holds, rem-holds, pow-holds}

pub record Operand (K : Claim) (a : EvaluatedOf Marked) (b : EvaluatedOf ℕ) : Type 0 where
  pub value : Stands K a.value b.value
  pub span : a.span ≡ b.span

abbrev pub Outcome : Claim → OutcomeOf Marked → OutcomeOf ℕ → Type 0
Outcome K = ResultStands (Operand K)

pub then-stands : {A B C D : Type 0} {S : A → B → Type 0} (T : C → D → Type 0) {x : Result A Fault} {y : Result B Fault} {go : A → Result C Fault} {to : B → Result D Fault} → ResultStands S x y → ((a : A) (b : B) → S a b → ResultStands T (go a) (to b)) → ResultStands T (o.then x go) (o.then y to)
then-stands T (answers {a = a} {b = b} s) h = h a b s
then-stands T (refuses fault) h = refuses fault

module _ {K : Claim} where
  pub at-stands : {v : ValOf Marked} {w : ValOf ℕ} (span : Span) → Stands K v w → Outcome K (at_span v span) (at_span w span)
  at-stands span s = answers (record { value = s; span = refl })

  pub has-stands : (span : Span) {m n : Bool} → m ≡ n → Outcome K (at_span (val.bool m) span) (at_span (val.bool n) span)
  has-stands span {n = n} p = rw p (at-stands span (bools n))

pub placed-stands : {A B : Type 0} (S : A → B → Type 0) (file : Name) (span : Span) {x : Result A Fault} {y : Result B Fault} → ResultStands S x y → ResultStands S (placed file x span) (placed file y span)
placed-stands S file span (answers s) = answers s
placed-stands S file span (refuses fault) = refuses _

known-stands : {A B : Type 0} (S : A → B → Type 0) (file : Name) (span : Span) {x : Option A} {y : Option B} → OptionStands S x y → ResultStands S (known file x span) (known file y span)
known-stands S file span no_value = refuses _
known-stands S file span (value s) = answers s

pub either_result : {A B : Type 0} (S : A → B → Type 0) (b : Bool) {x x' : Result A Fault} {y y' : Result B Fault} → ResultStands S x y → ResultStands S x' y' → ResultStands S (cond b x x') (cond b y y')
either_result S true s t = s
either_result S false s t = t

-- the same answer on both sides
abbrev Is : {A : Type 0} → A → A → Type 0
Is a b = a ≡ b

same-result : {A : Type 0} (r : Result A Fault) → ResultStands Is r r
same-result (Ok a) = answers refl
same-result (Err fault) = refuses fault

module _ {K : Claim} where
  missing-same : {v : ValOf Marked} {w : ValOf ℕ} → Stands K v w → acc.is_missing v ≡ acc.is_missing w
  missing-same undefineds = refl
  missing-same _ = refl

  bound-same : {v : ValOf Marked} {w : ValOf ℕ} → Stands K v w → acc.bound_of v ≡ acc.bound_of w
  bound-same (ints z) = refl
  bound-same _ = refl

  part-stands : (file : Name) (optional : Bool) {a : EvaluatedOf Marked} {b : EvaluatedOf ℕ} (span : Span) {x : OutcomeOf Marked} {y : OutcomeOf ℕ} → Operand K a b → Outcome K x y → Outcome K (acc.part_of file optional a span x) (acc.part_of file optional b span y)
  part-stands file false span s t = rw (undefined-same s.value) (rw s.span (either_result (Operand K) _ (refuses _) t))
  part-stands file true span s t = rw (missing-same s.value) (either_result (Operand K) _ (at-stands span undefineds) t)

  pub attribute-stands : (file : Name) (optional : Bool) (name : Name) (span : Span) {a : EvaluatedOf Marked} {b : EvaluatedOf ℕ} → Operand K a b → Outcome K (acc.attribute_of file optional a name span) (acc.attribute_of file optional b name span)
  attribute-stands file optional name span s = part-stands file optional span s (at-stands span (or_undefined-stands (attr-stands name s.value)))

  pub item-stands : (file : Name) (optional : Bool) (span : Span) {a i : EvaluatedOf Marked} {b j : EvaluatedOf ℕ} → Operand K a b → Operand K i j → Outcome K (acc.item_in marking file optional a i span) (acc.item_in plain file optional b j span)
  item-stands file optional span s t =
      part-stands file optional span s
      (rw t.span (rw s.span (then-stands (Operand K) (placed-stands (Stands K) file _ (get_item-stands s.value t.value)) (λ v w k. at-stands _ k))))

  bound-stands : (file : Name) {a : EvaluatedOf Marked} {b : EvaluatedOf ℕ} → Operand K a b → ResultStands Is (acc.bound_at file a) (acc.bound_at file b)
  bound-stands file s = rw (bound-same s.value) (rw s.span (same-result _))

  pub sliced-stands : (file : Name) (optional : Bool) (span : Span) {a s e t : EvaluatedOf Marked} {b s' e' t' : EvaluatedOf ℕ} → Operand K a b → Operand K s s' → Operand K e e' → Operand K t t' → Outcome K (acc.sliced_in marking file optional a s e t span) (acc.sliced_in plain file optional b s' e' t' span)
  sliced-stands file optional span {b = b} h i j k =
      part-stands file optional span h
      (then-stands (Operand K) (bound-stands file i) (λ s s' p. then-stands (Operand K) (bound-stands file j) (λ e e' q. then-stands (Operand K) (bound-stands file k) (λ t t' r.
      rw p (rw q (rw r (rw h.span (then-stands (Operand K) (placed-stands (Stands K) file b.span (slice-stands s' e' t' h.value)) (λ v w n. at-stands b.span n)))))))))

  pub not-stands : {a : EvaluatedOf Marked} {b : EvaluatedOf ℕ} → Operand K a b → Operand K (ops.not_of a) (ops.not_of b)
  not-stands s = record { value = rw (truthy-same s.value) (bools _); span = s.span }

  pub negative-stands : (file : Name) {a : EvaluatedOf Marked} {b : EvaluatedOf ℕ} → Operand K a b → Outcome K (ops.negative_in marking file a) (ops.negative_in plain file b)
  negative-stands file {b = b} s = rw (bare-is s.value) (rw s.span (then-stands (Operand K) (placed-stands (Stands K) file _ (answers-stand (negate b.value) (negate-holds K b.value))) (λ v w k. at-stands _ k)))

  combined-stands : (file : Name) {a c : EvaluatedOf Marked} {b d : EvaluatedOf ℕ} {x : Result (ValOf Marked) Fault} {y : Result (ValOf ℕ) Fault} → Operand K a b → Operand K c d → ResultStands (Stands K) x y → Outcome K (ops.combined file a c x) (ops.combined file b d y)
  combined-stands file s t r = rw s.span (rw t.span (then-stands (Operand K) (placed-stands (Stands K) file _ r) (λ v w k. at-stands _ k)))

  number-stands : (file : Name) {a : EvaluatedOf Marked} {b : EvaluatedOf ℕ} → Operand K a b → ResultStands Is (ops.number_at file a) (ops.number_at file b)
  number-stands file s = rw (int-same s.value) (rw s.span (same-result _))

  numbers-stand : (file : Name) {a c : EvaluatedOf Marked} {b d : EvaluatedOf ℕ} → Operand K a b → Operand K c d → ResultStands Is (ops.numbers file a c) (ops.numbers file b d)
  numbers-stand file s t = then-stands Is (number-stands file s) (λ m m' p. then-stands Is (number-stands file t) (λ n n' q. rw p (rw q (answers refl))))

  module _ (file : Name) {a c : EvaluatedOf Marked} {b d : EvaluatedOf ℕ} (s : Operand K a b) (t : Operand K c d) where
    reckoned-stands : (f : Val → Val → Result Val Fault) → AlwaysHolds K f → ResultStands (Stands K) (marking.answers (f (marking.bare a.value) (marking.bare c.value))) (f b.value d.value)
    reckoned-stands f h = rw (bare-is s.value) (rw (bare-is t.value) (answers-stand (f b.value d.value) (h b.value d.value)))

    calculated-stands : (f : Val → Val → Result Val Fault) → AlwaysHolds K f → Outcome K (ops.calculated_in marking file f a c) (ops.calculated_in plain file f b d)
    calculated-stands f h = then-stands (Operand K) (numbers-stand file s t) (λ m n p. combined-stands file s t (reckoned-stands f h))

    divisor-stands : ResultStands Is (ops.divisor_of file a c) (ops.divisor_of file b d)
    divisor-stands = then-stands Is (numbers-stand file s t) (λ m n p. rw p (rw t.span (same-result _)))

    divided-stands : (f : Val → Val → Result Val Fault) → AlwaysHolds K f → Outcome K (ops.divided_in marking file f a c) (ops.divided_in plain file f b d)
    divided-stands f h = then-stands (Operand K) divisor-stands (λ m n p. combined-stands file s t (reckoned-stands f h))

    spans-same : spanning a c ≡ spanning b d
    spans-same = rw s.span (rw t.span refl)

    standing-stands : ResultStands Is (ops.standing_in marking file a c) (ops.standing_in plain file b d)
    standing-stands = rw (bare-is s.value) (rw (bare-is t.value) (rw spans-same (same-result _)))

    compared-stands : (test : Ordering → Bool) → Outcome K (ops.compared_in marking file test a c) (ops.compared_in plain file test b d)
    compared-stands test = then-stands (Operand K) standing-stands (λ m n p. rw p (rw spans-same (at-stands _ (bools _))))

    contained-stands : (span : Span) → Outcome K (ops.contained_in marking file a c span) (ops.contained_in plain file b d span)
    contained-stands span = rw (bare-is s.value) (rw (bare-is t.value) (rw t.span (then-stands (Operand K) (placed-stands Is file d.span (same-result (contains d.value b.value))) (λ m n p. has-stands span p))))

    joined-stands : Outcome K (at_span (val.text (printed_of marking a.value ++ printed_of marking c.value) false) (spanning a c)) (at_span (val.text (printed_of plain b.value ++ printed_of plain d.value) false) (spanning b d))
    joined-stands = rw spans-same (at-stands _ (texts false (each-append (lowered _ (printed-each s.value)) (lowered _ (printed-each t.value)))))

    pub binary-stands : (o : BinaryOperator) (span : Span) → Outcome K (ops.binary_in marking file o a c span) (ops.binary_in plain file o b d span)
    binary-stands op.Add span = combined-stands file s t (reckoned-stands add (add-holds K))
    binary-stands op.Subtract span = calculated-stands sub (sub-holds K)
    binary-stands op.Multiply span = calculated-stands mul (mul-holds K)
    binary-stands op.Divide span = divided-stands div (div-holds K)
    binary-stands op.FloorDivide span = divided-stands floor_div (floor_div-holds K)
    binary-stands op.Remainder span = divided-stands rem (rem-holds K)
    binary-stands op.Power span = calculated-stands pow (pow-holds K)
    binary-stands op.Concat span = joined-stands
    binary-stands op.Equal span = rw (bare-is s.value) (rw (bare-is t.value) (rw spans-same (at-stands _ (bools _))))
    binary-stands op.NotEqual span = rw (bare-is s.value) (rw (bare-is t.value) (rw spans-same (at-stands _ (bools _))))
    binary-stands op.Less span = compared-stands is_lt
    binary-stands op.Greater span = compared-stands is_gt
    binary-stands op.LessOrEqual span = compared-stands is_le
    binary-stands op.GreaterOrEqual span = compared-stands is_ge
    binary-stands op.In span = contained-stands span

-- items and entries of literals
abbrev pub Listed : Claim → {N : Type 0} → N × EvaluatedOf Marked → N × EvaluatedOf ℕ → Type 0
Listed K x y = (x.0 ≡ y.0) × Operand K x.1 y.1

module _ {K : Claim} where
  items_of-stand : {v : ValOf Marked} {w : ValOf ℕ} → Stands K v w → OptionStands (Each (Stands K)) (lit.items_of v) (lit.items_of w)
  items_of-stand (arrays ss) = value (each-stands ss)
  items_of-stand _ = no_value

  pairs_of-stand : {v : ValOf Marked} {w : ValOf ℕ} → Stands K v w → OptionStands (Each (Pair K)) (lit.pairs_of v) (lit.pairs_of w)
  pairs_of-stand (maps ss) = value (pairs-stand ss)
  pairs_of-stand _ = no_value

  before-stands : (file : Name) (is_spread : Bool) {a : EvaluatedOf Marked} {b : EvaluatedOf ℕ} {vs : List (ValOf Marked)} {ws : List (ValOf ℕ)} → Operand K a b → Each (Stands K) vs ws → ResultStands (Each (Stands K)) (lit.item_before file is_spread a vs) (lit.item_before file is_spread b ws)
  before-stands file false s ss = answers (more s.value ss)
  before-stands file true s ss = rw s.span (then-stands (Each (Stands K)) (known-stands (Each (Stands K)) file _ (items_of-stand s.value)) (λ vs ws ts. answers (each-append ts ss)))

  items-stand : (file : Name) {is : List (Bool × EvaluatedOf Marked)} {js : List (Bool × EvaluatedOf ℕ)} → Each (Listed K) is js → ResultStands (Each (Stands K)) (lit.array_items file is) (lit.array_items file js)
  items-stand file none = answers none
  items-stand file (more {y = j} s ss) = then-stands (Each (Stands K)) (items-stand file ss) (λ vs ws ts. rw s.0 (before-stands file j.0 s.1 ts))

  pub array-stands : (file : Name) (span : Span) {is : List (Bool × EvaluatedOf Marked)} {js : List (Bool × EvaluatedOf ℕ)} → Each (Listed K) is js → Outcome K (lit.array_of file is span) (lit.array_of file js span)
  array-stands file span ss = then-stands (Operand K) (items-stand file ss) (λ vs ws ts. at-stands span (arrays (all-stand ts)))

  found-same : (k : KeyVal) {es : List (KeyVal × ValOf Marked)} {fs : List (KeyVal × ValOf ℕ)} → Each (Pair K) es fs → is_some (find k es) ≡ is_some (find k fs)
  found-same k ss = go (find-stands k ss)
    where
      go : {x : Option (ValOf Marked)} {y : Option (ValOf ℕ)} → OptionStands (Stands K) x y → is_some x ≡ is_some y
      go no_value = refl
      go (value s) = refl

  kept-stand : {es : List (KeyVal × ValOf Marked)} {fs : List (KeyVal × ValOf ℕ)} → Each (Pair K) es fs → {all : List (KeyVal × ValOf Marked)} {every : List (KeyVal × ValOf ℕ)} → Each (Pair K) all every → Each (Pair K) (lit.kept all es) (lit.kept every fs)
  kept-stand none ts = ts
  kept-stand (more {x = e} {y = f} s ss) {all} {every} ts = kept-stand ss (go (is_some (find e.0 all)) (is_some (find f.0 every)) (ap (λ k. is_some (find k all)) s.0 ∙ found-same f.0 ts))
    where
      go : (b c : Bool) → b ≡ c → Each (Pair K) (cond b all (all ++ e ∷ [])) (cond c every (every ++ f ∷ []))
      go true true h = ts
      go false false h = each-append ts (more s none)
      go true false h = cc
      go false true h = cc

  after-stands : (file : Name) (key : Option Key) {a : EvaluatedOf Marked} {b : EvaluatedOf ℕ} {es : List (KeyVal × ValOf Marked)} {fs : List (KeyVal × ValOf ℕ)} → Operand K a b → Each (Pair K) es fs → ResultStands (Each (Pair K)) (lit.entry_after file key a es) (lit.entry_after file key b fs)
  after-stands file (Some k) s ss = answers (kept-stand (more (refl, s.value) none) ss)
  after-stands file None s ss = rw s.span (then-stands (Each (Pair K)) (known-stands (Each (Pair K)) file _ (pairs_of-stand s.value)) (λ es fs ts. answers (kept-stand ts ss)))

  right-stands : (file : Name) {is : List (Option Key × EvaluatedOf Marked)} {js : List (Option Key × EvaluatedOf ℕ)} → Each (Listed K) is js → ResultStands (Each (Pair K)) (lit.from_right file is) (lit.from_right file js)
  right-stands file none = answers none
  right-stands file (more {y = j} s ss) = then-stands (Each (Pair K)) (right-stands file ss) (λ es fs ts. rw s.0 (after-stands file j.0 s.1 ts))

  inserted-each : (key : Option Key) {v : ValOf Marked} {w : ValOf ℕ} {es : List (KeyVal × ValOf Marked)} {fs : List (KeyVal × ValOf ℕ)} → Stands K v w → Each (Pair K) es fs → Each (Pair K) (lit.inserted es key v) (lit.inserted fs key w)
  inserted-each None s ss = ss
  inserted-each (Some k) s ss = inserted-stands (lit.key_val k) s ss

  left-stands : {is : List (Option Key × EvaluatedOf Marked)} {js : List (Option Key × EvaluatedOf ℕ)} → Each (Listed K) is js → {es : List (KeyVal × ValOf Marked)} {fs : List (KeyVal × ValOf ℕ)} → Each (Pair K) es fs → Each (Pair K) (lit.from_left es is) (lit.from_left fs js)
  left-stands none ts = ts
  left-stands (more {y = j} s ss) ts = left-stands ss (rw s.0 (inserted-each j.0 s.1.value ts))

  spread-same : {is : List (Option Key × EvaluatedOf Marked)} {js : List (Option Key × EvaluatedOf ℕ)} → Each (Listed K) is js → list_any (λ e. is_none e.0) is ≡ list_any (λ e. is_none e.0) js
  spread-same none = refl
  spread-same (more s ss) = rw s.0 (rw (spread-same ss) refl)

  pub entries-are : (file : Name) {is : List (Option Key × EvaluatedOf Marked)} {js : List (Option Key × EvaluatedOf ℕ)} → Each (Listed K) is js → ResultStands (Each (Pair K)) (lit.map_entries file is) (lit.map_entries file js)
  entries-are file ss = rw (spread-same ss) (either_result (Each (Pair K)) _ (right-stands file ss) (answers (left-stands ss none)))

  pub map-stands : (file : Name) (span : Span) {is : List (Option Key × EvaluatedOf Marked)} {js : List (Option Key × EvaluatedOf ℕ)} → Each (Listed K) is js → Outcome K (lit.map_of file is span) (lit.map_of file js span)
  map-stands file span ss = then-stands (Operand K) (entries-are file ss) (λ es fs ts. at-stands span (maps (entries-stand ts)))
